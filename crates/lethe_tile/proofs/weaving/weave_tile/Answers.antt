use Rattle.std.proofs.Common.{sym, subst}
use Rattle.lethe_tile.specs.Woven.{HaveDistinctKeys}
use Rattle.lethe_tile.proofs.Orders.{puts_have_distinct_keys}
use Rattle.lethe_tile.proofs.weaving.weave_tile.Goals as goal

pub pages_of_puts-requires-clause-keys : goal.pages_of_puts-requires-clause-keys
pages_of_puts-requires-clause-keys c = subst HaveDistinctKeys (sym c.in_ok-tombs.ensures.puts) (puts_have_distinct_keys c.args.entries.items c.requires.ascending)
