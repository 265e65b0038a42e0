use Rattle.lethe_core.proofs.Descending.{goes_on}
use Rattle.lethe_core.proofs.Waiting.{erases_counted}
use Rattle.lethe_core.proofs.laws.job_goes_on.Goals as goal

pub returns : goal.returns
returns c = λ h s t task is coherent planned installed. goes_on s t task coherent (erases_counted h s is) planned installed
