use Rattle.lethe_base.proofs.FirstPut.{first_put}
use Rattle.lethe_base.proofs.covering.first_put_covers.Goals as goal

pub returns : goal.returns
returns c = λ threshold levels caller key dkey value. first_put levels caller key dkey value threshold
