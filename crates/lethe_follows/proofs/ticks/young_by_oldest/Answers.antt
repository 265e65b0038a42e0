use Rattle.lethe_follows.proofs.Young.{young_by}
use Rattle.lethe_follows.proofs.ticks.young_by_oldest.Goals as goal

pub returns : goal.returns
returns c = young_by
