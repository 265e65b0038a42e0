use Rattle.std.proofs.Common.{◌≡◌, ◌≤◌, ◌-◌, None}
use Rattle.std.specs.Prelude.{replicate, vec_capacity, vec_len}
use Rattle.lethe_run.proofs.slots.Slots.new.Given as goal

-- so many slots hold none, and there is room for the others
abbrev pub invariant-slots : goal.invariant-slots
invariant-slots g l = record {
  none : l.held.items ≡ replicate (vec_len l.held) None;
  few : vec_len l.held ≤ 10;
  room : 10 ≤ vec_capacity l.held;
}

abbrev pub decreases-slots : goal.decreases-slots
decreases-slots g l = 10 - vec_len l.held
