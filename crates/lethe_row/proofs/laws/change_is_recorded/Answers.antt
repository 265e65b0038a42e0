use Rattle.lethe_row.proofs.Recorded.{recorded}
use Rattle.lethe_row.proofs.laws.change_is_recorded.Goals as goal

pub returns : goal.returns
returns c = recorded
