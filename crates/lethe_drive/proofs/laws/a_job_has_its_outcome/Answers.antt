use Rattle.lethe_drive.proofs.Runs.{job_done}
use Rattle.lethe_drive.proofs.laws.a_job_has_its_outcome.Goals as goal

pub returns : goal.returns
returns g c = job_done g.D.Disk.ports_fail
