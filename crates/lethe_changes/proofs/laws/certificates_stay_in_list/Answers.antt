use Rattle.lethe_core.specs.View.{view_of}
use Rattle.lethe_changes.proofs.Making.{list_certified}
use Rattle.lethe_changes.proofs.laws.certificates_stay_in_list.Goals as goal

pub returns : goal.returns
returns g c = λ asked done refused before now answers told config opened h answered stands caller.
    list_certified g.D.Disk.tells g.D.Disk.ports_fail asked done refused before now (view_of c.args._before.now.core) (view_of c.args._behind.now.core) answers told config opened h caller answered stands
