use Rattle.lethe_stored.proofs.Meanings.{kept_timely}
use Rattle.lethe_stored.proofs.laws.kept_holds_nothing_overdue.Goals as goal

pub returns : goal.returns
returns c = kept_timely
