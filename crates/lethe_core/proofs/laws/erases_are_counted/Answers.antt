use Rattle.lethe_core.proofs.Waiting.{erases_counted}
use Rattle.lethe_core.proofs.laws.erases_are_counted.Goals as goal

pub returns : goal.returns
returns c = erases_counted
