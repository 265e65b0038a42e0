use Rattle.lethe_follows.proofs.Erases.{pending_spelled}
use Rattle.lethe_follows.proofs.layouts.pending_is_spelled.Goals as goal

pub returns : goal.returns
returns c = pending_spelled
