use Rattle.lethe_cover.proofs.Returned.{returned_covers}
use Rattle.lethe_cover.proofs.jobs.spent_erases_may_return.Goals as goal

pub returns : goal.returns
returns c = λ threshold h l pending covers shorter accepted. returned_covers threshold h l pending covers shorter accepted
