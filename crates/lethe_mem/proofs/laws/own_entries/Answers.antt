use Rattle.lethe_mem.proofs.Order.{own_entries}
use Rattle.lethe_mem.proofs.laws.own_entries.Goals as goal

pub returns : goal.returns
returns c = own_entries
