use Rattle.lethe_cover.proofs.Frozen.{freeze_covers}
use Rattle.lethe_cover.proofs.changes.freeze_covers.Goals as goal

pub returns : goal.returns
returns c = λ threshold h l covers counted free. freeze_covers threshold h l covers counted free
