use Rattle.lethe_cover.proofs.Entered.{delete_covers}
use Rattle.lethe_cover.proofs.changes.delete_covers.Goals as goal

pub returns : goal.returns
returns c = λ threshold caller h l covers counted some clock key. delete_covers threshold caller h l covers counted key some clock
