use Rattle.lethe_install.proofs.TaskStays.{stays_beside}
use Rattle.lethe_install.proofs.laws.task_stays_beside.Goals as goal

pub returns : goal.returns
returns c = λ s t task other coherent rising is _ apart installed after. stays_beside s t task other coherent rising is apart installed after
