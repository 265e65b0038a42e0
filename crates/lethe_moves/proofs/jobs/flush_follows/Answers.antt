use Rattle.lethe_moves.proofs.Flushing.{flush_follows}
use Rattle.lethe_moves.proofs.jobs.flush_follows.Goals as goal

pub returns : goal.returns
returns c = λ threshold h l follows made flushes. flush_follows threshold h l follows made flushes
