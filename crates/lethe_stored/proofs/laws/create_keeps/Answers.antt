use Rattle.lethe_stored.proofs.Steps as steps
use Rattle.lethe_stored.proofs.laws.create_keeps.Goals as goal

pub returns : goal.returns
returns c = steps.create_keeps
