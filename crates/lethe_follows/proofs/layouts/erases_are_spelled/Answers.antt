use Rattle.lethe_follows.proofs.Erases.{erases_spelled}
use Rattle.lethe_follows.proofs.layouts.erases_are_spelled.Goals as goal

pub returns : goal.returns
returns c = erases_spelled
