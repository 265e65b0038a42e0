-- The sweeps of the first pending erase: of the files that it hasn't been applied to.
use Rattle.std.specs.Prelude.{ℕ, Bool, nat_lt, List, [], ◌∷◌, map, filter, Some}
use Rattle.lethe_base.specs.declared.pending.Pending.{Pending}
use Rattle.lethe_base.specs.declared.shape.FileFacts.{FileFacts}
use Rattle.lethe_base.specs.declared.shape.Shape.{Shape}
use Rattle.lethe_fade.specs.declared.claim.Claim.{Claim}
use Rattle.lethe_fade.specs.declared.plan.Plan.{Plan}
use Rattle.lethe_fade.specs.Spans.{range_of}
use Rattle.lethe_fade.specs.Claims.{claim_over}
use Rattle.lethe_fade.specs.Ranks.{IsInOrder, sorted_by}
use Rattle.lethe_fade.specs.Candidates.{Candidate, merges_from}
use Rattle.lethe_fade.specs.Expired.{expired_cmp}

-- the erase of that place is still to be applied to the file
abbrev pub is_unswept : ℕ → FileFacts → Bool
is_unswept place file = nat_lt file.swept place

abbrev pub sweep_plan : ℕ → ℕ → Plan
sweep_plan place number = record { file = number; erase = Some place }

-- a sweep takes no file but its own
abbrev pub sweep_claim : ℕ → FileFacts → Claim
sweep_claim level file = claim_over level level (range_of file)

abbrev pub sweep_of : ℕ → ℕ → FileFacts → Candidate
sweep_of place level file = record { plan = sweep_plan place file.no; claim = sweep_claim level file }

-- a sweep of each of a level's files that are still to be swept, in the order of expired files
abbrev pub sweeps_in : ℕ → ℕ → List FileFacts → List Candidate
sweeps_in place level files = map (sweep_of place level) (sorted_by expired_cmp (filter (is_unswept place) files))

-- the last level has sweeps too
abbrev pub sweeps_from : ℕ → ℕ → List (List FileFacts) → List Candidate
sweeps_from place = merges_from (λ level files next. sweeps_in place level files)

-- of the first of some erases alone
abbrev pub sweeps_of : List Pending → List (List FileFacts) → List Candidate
sweeps_of [] levels = []
sweeps_of (erase ∷ later) levels = sweeps_from erase.seq 0 levels

-- the first pending erase is the one of the least place
abbrev pub sweeps : Shape → List Candidate
sweeps shape = sweeps_of shape.erases shape.levels

abbrev pub SweepsComeInOrder : Type 0
SweepsComeInOrder = (place : ℕ) (files : List FileFacts) → IsInOrder expired_cmp (filter (is_unswept place) files) (sorted_by expired_cmp (filter (is_unswept place) files))
