use Rattle.lethe_mem.proofs.Order.{one_list}
use Rattle.lethe_mem.proofs.laws.one_list.Goals as goal

pub returns : goal.returns
returns c = one_list
