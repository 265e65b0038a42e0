use Rattle.lethe_state.proofs.Recording.{entered_remembered}
use Rattle.lethe_state.proofs.laws.entered_is_remembered.Goals as goal

pub returns : goal.returns
returns c = entered_remembered
