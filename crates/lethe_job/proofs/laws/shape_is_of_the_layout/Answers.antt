use Rattle.lethe_job.proofs.Shaped.{shape_same}
use Rattle.lethe_job.proofs.laws.shape_is_of_the_layout.Goals as goal

pub returns : goal.returns
returns c = shape_same
