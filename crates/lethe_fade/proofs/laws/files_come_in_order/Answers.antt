use Rattle.lethe_fade.proofs.OrderLaws.{files_come_in_order}
use Rattle.lethe_fade.proofs.laws.files_come_in_order.Goals as goal

pub returns : goal.returns
returns c = files_come_in_order
