use Rattle.lethe_state.proofs.Recording.{erase_recorded}
use Rattle.lethe_state.proofs.laws.erase_is_recorded.Goals as goal

pub returns : goal.returns
returns c = erase_recorded
