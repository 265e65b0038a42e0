use Rattle.lethe_cover.proofs.Quiet.{tick_covers}
use Rattle.lethe_cover.proofs.changes.tick_covers.Goals as goal

pub returns : goal.returns
returns c = λ threshold caller h l covers counted to fresh. tick_covers threshold caller h l covers counted to fresh
