use Rattle.lethe_state.proofs.Recording.{delete_recorded}
use Rattle.lethe_state.proofs.laws.delete_is_recorded.Goals as goal

pub returns : goal.returns
returns c = delete_recorded
