use Rattle.std.proofs.Common.{sym, ◌∙◌, subst}
use Rattle.std.proofs.lemmas.List.{take_all}
use Rattle.lethe_base.specs.Entries.{IsAscending}
use Rattle.lethe_mem.proofs.vec_buffer.VecBufferBuffer.copy.Goals as goal

pub invariant_of-result : goal.invariant_of-result
invariant_of-result c =
    let same = c.loop-entry.invariant ∙ take_all _ _ c.loop-entry-test.false ∙ c.deref-entry-items.ensures.value in
    (subst IsAscending (sym same) c.self.inside.ascending, tt)
