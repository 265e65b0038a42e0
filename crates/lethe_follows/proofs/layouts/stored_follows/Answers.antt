use Rattle.lethe_follows.proofs.Following.{follows}
use Rattle.lethe_follows.proofs.layouts.stored_follows.Goals as goal

pub returns : goal.returns
returns c = follows
