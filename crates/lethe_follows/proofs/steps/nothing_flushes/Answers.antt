use Rattle.lethe_follows.proofs.Stepping.{flush_of_nothing}
use Rattle.lethe_follows.proofs.steps.nothing_flushes.Goals as goal

pub returns : goal.returns
returns c = flush_of_nothing
