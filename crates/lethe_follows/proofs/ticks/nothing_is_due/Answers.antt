use Rattle.lethe_follows.proofs.NothingDue.{nothing_due}
use Rattle.lethe_follows.proofs.ticks.nothing_is_due.Goals as goal

pub returns : goal.returns
returns c = nothing_due
