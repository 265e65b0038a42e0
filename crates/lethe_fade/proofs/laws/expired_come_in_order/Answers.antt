use Rattle.lethe_fade.proofs.OrderLaws.{expired_come_in_order}
use Rattle.lethe_fade.proofs.laws.expired_come_in_order.Goals as goal

pub returns : goal.returns
returns c = expired_come_in_order
