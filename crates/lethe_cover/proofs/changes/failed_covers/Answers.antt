use Rattle.lethe_cover.proofs.Quiet.{failed_covers}
use Rattle.lethe_cover.proofs.changes.failed_covers.Goals as goal

pub returns : goal.returns
returns c = λ threshold caller h l covers call before after. failed_covers threshold caller h l covers call before after
