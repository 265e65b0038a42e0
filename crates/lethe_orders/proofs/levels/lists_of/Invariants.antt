use Rattle.std.proofs.Common.{◌≡◌, length}
use Rattle.lethe_orders.specs.Standing.{AreOrdersOf}
use Rattle.lethe_orders.proofs.levels.lists_of.Given as goal

abbrev pub invariant-loop-level : goal.invariant-loop-level
invariant-loop-level g l = record {
  count : length l.lists.items ≡ l.level;
  orders : AreOrdersOf l.levels l.lists.items;
}
