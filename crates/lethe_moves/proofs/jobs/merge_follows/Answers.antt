use Rattle.lethe_moves.proofs.MergeMoves.{merge_follows}
use Rattle.lethe_moves.proofs.jobs.merge_follows.Goals as goal

pub returns : goal.returns
returns c = λ threshold h l follows applied swept m merges. merge_follows threshold h l follows applied swept m merges
