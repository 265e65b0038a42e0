use Rattle.lethe_state.proofs.TickStep.{tick_remembered}
use Rattle.lethe_state.proofs.laws.tick_is_remembered.Goals as goal

pub returns : goal.returns
returns c = tick_remembered
