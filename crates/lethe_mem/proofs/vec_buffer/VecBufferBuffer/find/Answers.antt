use Rattle.std.proofs.Common.{Some, sym, ap, ◌∙◌}
use Rattle.lethe_base.specs.Entries.{entry_of}
use Rattle.lethe_mem.specs.Buffered.{Buffered}
use Rattle.lethe_mem.proofs.Places.{entry_of-at, entry_of-gap}
use Rattle.lethe_mem.proofs.vec_buffer.VecBufferBuffer.find.Goals as goal

pub returns-in-Ok : goal.returns-in-Ok
returns-in-Ok c =
    let stands = rw c.deref.ensures.value at c.in-Ok.ensures.found in
    ap Some c.index.ensures
    ∙ sym (entry_of-at c.args.key.now c.self.inside.sorted.items c.in-Ok.place c.index.result.now stands)
    ∙ ap (λ (b : Buffered). entry_of c.args.key.now b.entries) c.self.view_is

pub returns-in-Err : goal.returns-in-Err
returns-in-Err c =
    let gap = rw c.deref.ensures.value at c.in-Err.ensures.absent in
    sym (entry_of-gap c.args.key.now c.self.inside.sorted.items c.in-Err.field-0 c.self.inside.ascending gap)
    ∙ ap (λ (b : Buffered). entry_of c.args.key.now b.entries) c.self.view_is
