use Rattle.lethe_core.proofs.Descending.{any_goes_on}
use Rattle.lethe_core.proofs.laws.any_job_goes_on.Goals as goal

pub returns : goal.returns
returns c = any_goes_on
