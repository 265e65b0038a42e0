use Rattle.lethe_state.proofs.Stepping.{flush_for}
use Rattle.lethe_state.proofs.laws.flush_stands.Goals as goal

pub returns : goal.returns
returns c = flush_for
