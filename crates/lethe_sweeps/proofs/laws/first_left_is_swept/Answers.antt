use Rattle.lethe_sweeps.proofs.FirstLeft.{first_oldest, first_pending}
use Rattle.lethe_sweeps.proofs.laws.first_left_is_swept.Goals as goal

pub returns : goal.returns
returns c = λ s coherent w files erase later first. (first_pending s coherent w files erase later first, first_oldest s coherent w files erase later first)
