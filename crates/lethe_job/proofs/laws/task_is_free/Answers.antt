use Rattle.lethe_job.proofs.Claimed.{claim_free}
use Rattle.lethe_job.proofs.laws.task_is_free.Goals as goal

pub returns : goal.returns
returns c = λ s task claims coherent valid planned kind chosen. claim_free s task claims coherent valid planned kind chosen
