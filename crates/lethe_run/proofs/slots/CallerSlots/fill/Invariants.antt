use Rattle.std.proofs.Common.{◌≡◌, ◌≤◌, ◌-◌, None}
use Rattle.std.specs.Prelude.{replicate, vec_capacity, vec_len}
use Rattle.lethe_run.specs.Holding.{held_by}
use Rattle.lethe_run.proofs.slots.CallerSlots.fill.Given as goal

-- so many callers have their slots, and there is room for the others
abbrev pub invariant-callers : goal.invariant-callers
invariant-callers g l = record {
  none : held_by l.self.of.items ≡ replicate (vec_len l.self.of) (replicate 10 None);
  few : vec_len l.self.of ≤ 8;
  room : 8 ≤ vec_capacity l.self.of;
}

abbrev pub decreases-callers : goal.decreases-callers
decreases-callers g l = 8 - vec_len l.self.of
