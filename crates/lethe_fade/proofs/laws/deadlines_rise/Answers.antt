use Rattle.lethe_fade.proofs.Powers.{deadlines_rise}
use Rattle.lethe_fade.proofs.laws.deadlines_rise.Goals as goal

pub returns : goal.returns
returns c = deadlines_rise
