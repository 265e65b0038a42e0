use Rattle.lethe_state.proofs.Stepping.{freeze_remembered}
use Rattle.lethe_state.proofs.laws.freeze_is_remembered.Goals as goal

pub returns : goal.returns
returns c = freeze_remembered
