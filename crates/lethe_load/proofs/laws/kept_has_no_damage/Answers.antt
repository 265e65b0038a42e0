use Rattle.lethe_load.proofs.Exact.{kept_undamaged}
use Rattle.lethe_load.proofs.laws.kept_has_no_damage.Goals as goal

pub returns : goal.returns
returns c = kept_undamaged
