use Rattle.lethe_cover.proofs.Sweeping.{swept_outcome}
use Rattle.lethe_cover.proofs.jobs.sweep_is_outcome.Goals as goal

pub returns : goal.returns
returns c = λ erase alone taken made is. swept_outcome erase alone taken made is
