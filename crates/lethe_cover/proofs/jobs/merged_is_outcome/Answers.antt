use Rattle.std.proofs.Common.{Contains}
use Rattle.lethe_cover.proofs.Merging.{merged_outcome}
use Rattle.lethe_cover.proofs.jobs.merged_is_outcome.Goals as goal

pub returns : goal.returns
returns c = λ inputs erases alone merged is. merged_outcome (Contains inputs) inputs (λ entry there. there) (λ entry there. there) erases alone merged is
