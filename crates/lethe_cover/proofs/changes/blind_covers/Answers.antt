use Rattle.lethe_cover.proofs.Unentered.{blind_covers}
use Rattle.lethe_cover.proofs.changes.blind_covers.Goals as goal

pub returns : goal.returns
returns c = λ threshold caller h l covers counted key none. blind_covers threshold caller h l covers counted key none
