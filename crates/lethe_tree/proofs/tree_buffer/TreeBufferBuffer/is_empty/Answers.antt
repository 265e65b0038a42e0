use Rattle.std.proofs.Common.{◌≡◌, ◌∙◌, length, List, [], ◌∷◌, ap, sym, arith, refl}
use Rattle.std.proofs.lemmas.Bool.{eqb-true, eq-eqb}
use Rattle.lethe_mem.specs.Buffered.{Buffered}
use Rattle.lethe_base.specs.declared.entry.Entry.{Entry}
use Rattle.lethe_tree.proofs.Inserted.{many_entries}
use Rattle.lethe_tree.proofs.tree_buffer.TreeBufferBuffer.is_empty.Goals as goal

none_of : (es : List Entry) → length es ≡ 0 → es ≡ []
none_of [] is = refl
none_of (e ∷ es) is = absurd (omega (arith, is))

pub returns : goal.returns
returns c =
    let inside = c.self.inside in
    let many : length c.args.self.now.entries ≡ length inside.entries.items = sym (ap (λ (b : Buffered). length b.entries) c.self.view_is) ∙ many_entries inside.entries.items inside.links.items inside.root inside.last c.self.invariant in
    let items : inside.entries.len ≡ length inside.entries.items = omega arith in (
      (λ empty. none_of c.args.self.now.entries (let none = eqb-true inside.entries.len 0 (sym c.is_empty.ensures ∙ empty) in omega (arith, many, items, none))),
      λ none. c.is_empty.ensures ∙ eq-eqb inside.entries.len 0 (let zero : length c.args.self.now.entries ≡ 0 = ap (λ es. length es) none in omega (arith, many, items, zero)),
    )
