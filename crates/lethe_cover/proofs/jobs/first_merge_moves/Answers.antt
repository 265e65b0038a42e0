use Rattle.lethe_cover.proofs.FirstMerge.{first_merge_moves}
use Rattle.lethe_cover.proofs.jobs.first_merge_moves.Goals as goal

pub returns : goal.returns
returns c = λ alone file made other. first_merge_moves alone file made other
