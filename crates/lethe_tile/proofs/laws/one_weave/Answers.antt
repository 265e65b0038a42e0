use Rattle.lethe_tile.proofs.Unique.{one_weave}
use Rattle.lethe_tile.proofs.laws.one_weave.Goals as goal

pub returns : goal.returns
returns c = one_weave
