-- Jobs that were run one after another, each when it was due.
use Rattle.std.specs.Prelude.{◌≡◌, ◌⊎◌, ◌-◌, ◌^◌, ℕ, List, [], ◌∷◌, length, Option, Some, None, Result, Ok, Err}

-- each of these jobs was due when its turn came, and was run; no other was
abbrev pub Ran : {S P E : Type 0} → (S → ℕ → Option P) → (S → P → Result (Unit {0}) E → S → Type 0) → ℕ → S → List P → S → Type 0
Ran due ran to old [] new = new ≡ old
Ran due ran to old (plan ∷ plans) new = (middle : _) × (due old to ≡ Some plan) × ran old plan (Ok tt) middle × Ran due ran to middle plans new

-- the jobs that were due were run until none was, or until this many were
pub record IsSettled {S P E : Type 0} (due : S → ℕ → Option P) (ran : S → P → Result (Unit {0}) E → S → Type 0) (to : ℕ) (old new : S) : Type 0 where
  pub plans : List P
  pub runs : Ran due ran to old plans new
  pub ends : (due new to ≡ None) ⊎ (length plans ≡ 2 ^ 64 - 1)

-- behind some jobs that were run, one that was due was refused, and it was the last that was tried
pub record IsRefused {S P E : Type 0} (due : S → ℕ → Option P) (ran : S → P → Result (Unit {0}) E → S → Type 0) (to : ℕ) (old : S) (why : E) (new : S) : Type 0 where
  pub plans : List P
  pub last : S
  pub runs : Ran due ran to old plans last
  pub plan : P
  pub due_then : due last to ≡ Some plan
  pub refused : ran last plan (Err why) new
