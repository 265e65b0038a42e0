use Rattle.lethe_version.proofs.OneNewest.{one_newest_lem}
use Rattle.lethe_version.proofs.laws.one_newest.Goals as goal

pub returns : goal.returns
returns c = one_newest_lem
