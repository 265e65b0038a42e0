use Rattle.lethe_cover.proofs.Changed.{change_covers}
use Rattle.lethe_cover.proofs.changes.change_covers.Goals as goal

pub returns : goal.returns
returns c = λ threshold caller h l covers counted call r pending change. change_covers threshold caller h l covers counted call r pending change
