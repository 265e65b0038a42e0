-- Files that could not be read, and numbers that ran out.
use Rattle.std.proofs.Common.{◌≡◌, ◌⊎◌, inl, inr, ℕ, None, Err, refl, sym, subst}
use Rattle.lethe_base.specs.Counts.{Rose}
use Rattle.lethe_base.specs.Limits.{max_place}
use Rattle.lethe_base.specs.declared.name.Name.{Name}
use Rattle.lethe_base.specs.declared.refused.Refused.{Refused}
use Rattle.lethe_base.specs.declared.refused.Refused.TheVariants.{Exhausted, NoMemory}
use Rattle.lethe_disk.specs.Reads.{HasReadCause, IsFault}
use Rattle.lethe_disk.specs.declared.cursor.ReadRefused.{ReadRefused}
use Rattle.lethe_disk.specs.declared.cursor.ReadRefused.TheVariants as reads
use Rattle.lethe_job.specs.Jobs.{told_as}
use Rattle.lethe_state.specs.declared.state.State.{State}
use Rattle.lethe_core.specs.Asked.{failure_of}
use Rattle.lethe_core.specs.Reasons.{HasReason, IsUnreadable}

-- a refused read is no failure of the disk
pub not_failed_read : (why : ReadRefused) → failure_of (told_as why) ≡ None
not_failed_read (reads.ReadFault before after) = refl
not_failed_read (reads.Damaged name) = refl
not_failed_read reads.NoMemory = refl

-- and it has a reason
pub told_reason : {T : Type 0} (Short Tells PortsFail : Type 0) (state : State) (before now earlier later : ℕ) (why : ReadRefused) → HasReadCause {T = T} earlier later (Err why) → (IsFault {T = T} (Err why) → PortsFail)
    → (Tells → (name : Name) → why ≡ reads.Damaged name → ⊥) → HasReason Short state before now (told_as why) ⊎ IsUnreadable Tells PortsFail earlier later (told_as why)
told_reason Short Tells PortsFail state before now earlier later (reads.ReadFault b a) cause can_fail whole =
    let fault = cause.fault b a refl in
    inr (can_fail (b, a, refl), fault.0, fault.1, subst (λ n. Rose n later) fault.0 (subst (Rose b) fault.1 fault.2))
told_reason Short Tells PortsFail state before now earlier later (reads.Damaged name) cause can_fail whole = inr (λ told. whole told name refl)
told_reason Short Tells PortsFail state before now earlier later reads.NoMemory cause can_fail whole = inl tt

-- a step for which numbers or memory are short
pub short_reason : (Short : Type 0) (state : State) (before now : ℕ) → state.stopped ≡ None → (why : Refused) → (why ≡ Exhausted max_place) ⊎ (why ≡ NoMemory) → (why ≡ Exhausted max_place → Short) → HasReason Short state before now why
short_reason Short state before now runs why (inl is) short = subst (HasReason Short state before now) (sym is) (runs, refl, inr (short is))
short_reason Short state before now runs why (inr is) short = subst (HasReason Short state before now) (sym is) tt
