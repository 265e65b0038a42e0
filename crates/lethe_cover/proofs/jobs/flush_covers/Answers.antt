use Rattle.lethe_cover.proofs.Flushed.{flush_covers}
use Rattle.lethe_cover.proofs.jobs.flush_covers.Goals as goal

pub returns : goal.returns
returns c = λ threshold h l covers counted alone made flush. flush_covers threshold h l covers counted alone made flush
