use Rattle.lethe_state.proofs.Stepping.{flushed_is_flush}
use Rattle.lethe_state.proofs.laws.flushed_flushes.Goals as goal

pub returns : goal.returns
returns c = flushed_is_flush
