use Rattle.lethe_moves.proofs.Fresh.{due_overdue}
use Rattle.lethe_moves.proofs.due.nothing_due_is_overdue.Goals as goal

pub returns : goal.returns
returns c = λ fields config h l follows levels clock due entry swept. due_overdue fields config h l follows levels clock due entry swept
