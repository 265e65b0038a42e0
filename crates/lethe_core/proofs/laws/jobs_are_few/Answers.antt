use Rattle.lethe_core.proofs.Descending.{few_jobs}
use Rattle.lethe_core.proofs.laws.jobs_are_few.Goals as goal

pub returns : goal.returns
returns c = few_jobs
