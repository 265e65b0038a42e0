use Rattle.lethe_base.proofs.Overdue.{none_overdue}
use Rattle.lethe_base.proofs.covering.none_is_overdue.Goals as goal

pub returns : goal.returns
returns c = none_overdue
