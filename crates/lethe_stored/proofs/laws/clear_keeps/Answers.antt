use Rattle.lethe_stored.proofs.Steps as steps
use Rattle.lethe_stored.proofs.laws.clear_keeps.Goals as goal

pub returns : goal.returns
returns c = steps.clear_keeps
