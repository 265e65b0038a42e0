use Rattle.lethe_cover.proofs.Moved.{move_covers}
use Rattle.lethe_cover.proofs.jobs.move_covers.Goals as goal

pub returns : goal.returns
returns c = λ threshold h l covers counted levels alone applied swept m moves. move_covers threshold h l covers counted levels alone applied swept m moves
