use Rattle.lethe_moves.proofs.Fresh.{due_fresh}
use Rattle.lethe_moves.proofs.due.nothing_due_is_fresh.Goals as goal

pub returns : goal.returns
returns c = λ fields config h l follows levels clock due. due_fresh fields config h l follows levels clock due
