use Rattle.lethe_fade.proofs.OrderLaws.{sweeps_come_in_order}
use Rattle.lethe_fade.proofs.laws.sweeps_come_in_order.Goals as goal

pub returns : goal.returns
returns c = sweeps_come_in_order
