use Rattle.std.proofs.Common.{take, All}
use Rattle.lethe_orders.specs.Standing.{HaveOtherNumbers}
use Rattle.lethe_test_orders.proofs.apart.are_apart.Given as goal

abbrev pub invariant-loop-level : goal.invariant-loop-level
invariant-loop-level l = All HaveOtherNumbers (take l.level-index l.levels)
