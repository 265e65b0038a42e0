use Rattle.lethe_core.specs.View.{view_of}
use Rattle.lethe_engine.proofs.Clean.{now_clean}
use Rattle.lethe_engine.proofs.laws.standing_is_clean.Goals as goal

pub returns : goal.returns
returns g c = λ told config opened h stands runs. now_clean config h (view_of c.args._engine.now.core) stands.pages stands.now runs
