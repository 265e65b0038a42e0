use Rattle.lethe_state.proofs.Stepping.{room_for}
use Rattle.lethe_state.proofs.laws.room_stands.Goals as goal

pub returns : goal.returns
returns c = room_for
