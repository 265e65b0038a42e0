use Rattle.lethe_cover.proofs.Unentered.{erase_covers}
use Rattle.lethe_cover.proofs.changes.erase_covers.Goals as goal

pub returns : goal.returns
returns c = λ threshold caller h l covers counted some clock range. erase_covers threshold caller h l covers counted some clock range
