-- What is so of jobs that were run one after another.
use Rattle.std.proofs.Common.{◌≡◌, ℕ, List, [], ◌∷◌, ◌++◌, Option, Some, Result, Ok, refl, sym, subst}
use Rattle.lethe_settle.specs.Runs.{IsRefused, IsSettled, Ran}

module _ {S P E : Type 0} (due : S → ℕ → Option P) (ran : S → P → Result (Unit {0}) E → S → Type 0) (to : ℕ) where
  -- one job more was run
  pub one_more : (old middle new : S) (plans : List P) (plan : P) → Ran due ran to old plans middle → due middle to ≡ Some plan → ran middle plan (Ok tt) new → Ran due ran to old (plans ++ plan ∷ []) new
  one_more old middle new [] plan same is run = (new, subst (λ s. due s to ≡ Some plan) same is, subst (λ s. ran s plan (Ok tt) new) same run, refl)
  one_more old middle new (first ∷ plans) plan runs is run = (runs.0, runs.1, runs.2, one_more runs.0 middle new plans plan runs.3 is run)

  -- what each job keeps, all of them keep together
  pub all_keep : (Keeps : S → S → Type 0) → ((s : S) → Keeps s s) → ((r s t : S) → Keeps r s → Keeps s t → Keeps r t)
      → ((s t : S) (plan : P) → due s to ≡ Some plan → ran s plan (Ok tt) t → Keeps s t) → (old new : S) (plans : List P) → Ran due ran to old plans new → Keeps old new
  all_keep Keeps itself joined each old new [] same = subst (λ s. Keeps old s) (sym same) (itself old)
  all_keep Keeps itself joined each old new (plan ∷ plans) runs = joined old runs.0 new (each old runs.0 plan runs.1 runs.2) (all_keep Keeps itself joined each runs.0 new plans runs.3)

module _ {S P E : Type 0} {due : S → ℕ → Option P} {ran : S → P → Result (Unit {0}) E → S → Type 0} {to : ℕ} {old : S} where
  -- what each job keeps, settling keeps
  pub settled_keeps : {new : S} → IsSettled due ran to old new → (Keeps : S → S → Type 0) → ((s : S) → Keeps s s) → ((r s t : S) → Keeps r s → Keeps s t → Keeps r t)
      → ((s t : S) (plan : P) → due s to ≡ Some plan → ran s plan (Ok tt) t → Keeps s t) → Keeps old new
  settled_keeps {new = new} settled Keeps itself joined each = all_keep due ran to Keeps itself joined each old new settled.plans settled.runs

  -- and it is kept up to the run that is refused
  pub refused_keeps : {why : E} {new : S} → (refused : IsRefused due ran to old why new) → (Keeps : S → S → Type 0) → ((s : S) → Keeps s s) → ((r s t : S) → Keeps r s → Keeps s t → Keeps r t)
      → ((s t : S) (plan : P) → due s to ≡ Some plan → ran s plan (Ok tt) t → Keeps s t) → Keeps old refused.last
  refused_keeps refused Keeps itself joined each = all_keep due ran to Keeps itself joined each old refused.last refused.plans refused.runs
