use Rattle.lethe_stored.proofs.Appended.{pending_appended}
use Rattle.lethe_stored.proofs.laws.erase_is_pending.Goals as goal

pub returns : goal.returns
returns c = pending_appended
