use Rattle.lethe_follows.proofs.Bounds.{done_by_cited}
use Rattle.lethe_follows.proofs.leaving.done_by_what_is_cited.Goals as goal

pub returns : goal.returns
returns c = done_by_cited
