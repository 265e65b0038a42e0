use Rattle.std.proofs.Common.{◌≡◌, ◌∙◌, length, ap, sym, arith}
use Rattle.lethe_mem.specs.Buffered.{Buffered}
use Rattle.lethe_tree.proofs.Inserted.{many_entries}
use Rattle.lethe_tree.proofs.tree_buffer.TreeBufferBuffer.len.Goals as goal

pub returns : goal.returns
returns c =
    let inside = c.self.inside in
    let items : c.len.result ≡ length inside.entries.items = omega arith in
    items ∙ sym (many_entries inside.entries.items inside.links.items inside.root inside.last c.self.invariant) ∙ ap (λ (b : Buffered). length b.entries) c.self.view_is
