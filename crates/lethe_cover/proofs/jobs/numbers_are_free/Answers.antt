use Rattle.lethe_cover.proofs.Bridge.{numbered_covers}
use Rattle.lethe_cover.proofs.jobs.numbers_are_free.Goals as goal

pub returns : goal.returns
returns c = λ threshold h l covers next certificate. numbered_covers threshold h l covers next certificate
