use Rattle.lethe_core.specs.View.{view_of}
use Rattle.lethe_engine.proofs.Certified.{call_certified}
use Rattle.lethe_engine.proofs.laws.certificates_stay.Goals as goal

pub returns : goal.returns
returns g c = λ asked why face answers told config opened h answered stands caller.
    call_certified g.D.Disk.tells asked why face (view_of c.args._before.now.core) (view_of c.args._behind.now.core) answers told config opened h caller answered stands
