use Rattle.lethe_core.specs.View.{view_of}
use Rattle.lethe_engine.proofs.Certified.{row_certified}
use Rattle.lethe_engine.proofs.laws.certificates_stay_in_row.Goals as goal

pub returns : goal.returns
returns g c = λ asked left done refused answers told config opened h answered stands caller.
    row_certified g.D.Disk.tells asked left done refused (view_of c.args._before.now.core) (view_of c.args._behind.now.core) answers told config opened h caller answered stands
