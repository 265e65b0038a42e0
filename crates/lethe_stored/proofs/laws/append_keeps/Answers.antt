use Rattle.lethe_stored.proofs.Steps as steps
use Rattle.lethe_stored.proofs.laws.append_keeps.Goals as goal

pub returns : goal.returns
returns c = steps.append_keeps
