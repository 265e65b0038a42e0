use Rattle.lethe_fade.proofs.DueFirst.{due_is_first}
use Rattle.lethe_fade.proofs.laws.due_is_first.Goals as goal

pub returns : goal.returns
returns c = due_is_first
