use Rattle.std.specs.List.{AllAdjacentBelow}
use Rattle.lethe_tile.proofs.Orders.{HasLowerKey}
use Rattle.lethe_tile.proofs.ordering.is_ascending.Given as goal

abbrev pub invariant-loop-i : goal.invariant-loop-i
invariant-loop-i l = AllAdjacentBelow HasLowerKey l.entries l.i
