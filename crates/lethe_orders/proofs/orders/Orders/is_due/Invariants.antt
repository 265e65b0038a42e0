use Rattle.std.proofs.Common.{◌≡◌, ◌+◌, ◌≤◌, drop, length}
use Rattle.lethe_base.specs.declared.shape.Shape.{Shape}
use Rattle.lethe_fade.specs.Expired.{expired_from}
use Rattle.lethe_orders.specs.Firsts.{first_expired}
use Rattle.lethe_orders.specs.Standing.{StandFor}
use Rattle.lethe_orders.proofs.Firsts.{file_of_first}
use Rattle.lethe_orders.proofs.orders.Orders.is_due.Given as goal

-- the levels so far have no expired file
abbrev pub invariant-loop-level : goal.invariant-loop-level
invariant-loop-level g l = record {
  first : (shape : Shape) → length shape.levels ≡ l.config.levels + 1 → StandFor shape l.self → first_expired l.config l.to shape ≡ file_of_first (expired_from l.config l.to l.level (drop l.level shape.levels));
  few : l.steps ≤ l.initial.steps + l.level;
}
