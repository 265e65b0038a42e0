use Rattle.lethe_job.proofs.Claimed.{claim_chosen}
use Rattle.lethe_job.proofs.laws.claim_is_chosen.Goals as goal

pub returns : goal.returns
returns c = λ s task coherent planned kind. claim_chosen s task coherent planned kind
