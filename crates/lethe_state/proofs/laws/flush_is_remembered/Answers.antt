use Rattle.lethe_state.proofs.Stepping.{flush_remembered}
use Rattle.lethe_state.proofs.laws.flush_is_remembered.Goals as goal

pub returns : goal.returns
returns c = flush_remembered
