use Rattle.lethe_cover.proofs.Entered.{put_covers}
use Rattle.lethe_cover.proofs.changes.put_covers.Goals as goal

pub returns : goal.returns
returns c = λ threshold caller h l covers counted key dkey value. put_covers threshold caller h l covers counted key dkey value
