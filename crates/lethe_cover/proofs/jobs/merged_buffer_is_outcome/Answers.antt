use Rattle.lethe_base.specs.Held.{InBuffer}
use Rattle.lethe_cover.proofs.Merging.{merged_outcome}
use Rattle.lethe_cover.proofs.jobs.merged_buffer_is_outcome.Goals as goal

pub returns : goal.returns
returns c = λ buffer inputs same erases alone merged is. merged_outcome (InBuffer buffer) inputs (λ entry. (same entry).0) (λ entry. (same entry).1) erases alone merged is
