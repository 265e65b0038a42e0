use Rattle.lethe_base.proofs.Shorter.{shorter_covers}
use Rattle.lethe_base.proofs.covering.spent_erases_may_go.Goals as goal

pub returns : goal.returns
returns c = shorter_covers
