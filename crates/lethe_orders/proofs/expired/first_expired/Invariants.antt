use Rattle.std.proofs.Common.{◌≡◌, ◌+◌, ◌≤◌, drop}
use Rattle.lethe_fade.specs.Expired.{expired_from}
use Rattle.lethe_orders.specs.Firsts.{first_expired, lowest_expired}
use Rattle.lethe_orders.proofs.Firsts.{file_of_first}
use Rattle.lethe_orders.proofs.expired.first_expired.Given as goal

-- the levels so far have no expired file
abbrev pub invariant-loop-level : goal.invariant-loop-level
invariant-loop-level g l = record {
  first : first_expired l.config l.to l.shape ≡ file_of_first (expired_from l.config l.to l.level (drop l.level l.shape.levels));
  lowest : lowest_expired l.config l.to 0 l.shape.levels ≡ lowest_expired l.config l.to l.level (drop l.level l.shape.levels);
  few : l.steps ≤ l.initial.steps + l.level;
}
