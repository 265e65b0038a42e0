-- The job that a time makes due, whatever claims stand.
use Rattle.std.specs.Prelude.{ℕ, ◌+◌, Bool, false, if◌then◌else◌, nat_le, List, [], ◌∷◌, ◌++◌, slice_get, Option, option_map}
use Rattle.lethe_base.specs.declared.config.Fields.{Fields}
use Rattle.lethe_base.specs.declared.pending.Pending.{Pending}
use Rattle.lethe_base.specs.declared.shape.Shape.{Shape}
use Rattle.lethe_fade.specs.declared.plan.Plan.{Plan}
use Rattle.lethe_fade.specs.Candidates.{Candidate}
use Rattle.lethe_fade.specs.Expired.{expired}
use Rattle.lethe_fade.specs.Sweeps.{sweeps}

-- the threshold, counted from when the first of some erases was accepted, is over
abbrev pub is_overdue : Fields → ℕ → List Pending → Bool
is_overdue fields clock [] = false
is_overdue fields clock (erase ∷ later) = nat_le (erase.time + fields.threshold) clock

abbrev pub overdue_sweeps : Fields → ℕ → Shape → List Candidate
overdue_sweeps fields clock shape = if is_overdue fields clock shape.erases then sweeps shape else []

-- the first of the expired files' merges, and where no file is expired the first of the overdue sweeps
abbrev pub due : Fields → Shape → ℕ → Option Plan
due fields shape to = option_map (λ candidate. candidate.plan) (slice_get (expired fields to shape ++ overdue_sweeps fields to shape) 0)
