-- What the reasons of refusals say: the counts of faults with which a failure is told, and that what wasn't begun is in no history.
use Rattle.std.proofs.Common.{◌≡◌, ◌⊎◌, inl, inr, ℕ, Option, Some, None, refl}
use Rattle.std.specs.Prelude.{IfSome}
use Rattle.lethe_base.specs.Counts.{Rose}
use Rattle.lethe_base.specs.Limits.{max_place}
use Rattle.lethe_base.specs.declared.refused.Refused.{Refused}
use Rattle.lethe_base.specs.declared.refused.Refused.TheVariants.{Fault, Stopped, Backwards, Pinned, NothingDue, Cancelled, Exhausted, ReadFault, NoMemory, Damaged}
use Rattle.lethe_disk.specs.declared.cursor.ReadRefused.{ReadRefused}
use Rattle.lethe_disk.specs.declared.cursor.ReadRefused.TheVariants as reads
use Rattle.lethe_state.specs.Records.{MayRefuse}
use Rattle.lethe_state.specs.declared.state.State.{State}
use Rattle.lethe_core.specs.Asked.{failure_of}
use Rattle.lethe_core.specs.Reasons.{HasReason, IsShortOfRoom, IsUnreadable}
use Rattle.lethe_core.specs.View.{View}
use Rattle.lethe_read.specs.Refusals.{told_as}
use Rattle.lethe_engine.specs.Refusals.{HasReasonOfBegin, HasReasonOfChange, SeesRoom}

-- the failure of a disk is told with these counts, which rose
abbrev pub IsTold : ℕ → ℕ → Refused → Type 0
IsTold before now why = IfSome (failure_of why) (λ failure. (failure.before ≡ before) × (failure.after ≡ now) × Rose before now)

pub reason_told : (Short : Type 0) (state : State) (before now : ℕ) (why : Refused) → HasReason Short state before now why → IsTold before now why
reason_told Short state before now (Fault place b a) is = (is.2, is.3, is.4)
reason_told Short state before now (Stopped at) is = tt
reason_told Short state before now (Backwards clock) is = tt
reason_told Short state before now (Pinned pin limit) is = tt
reason_told Short state before now NothingDue is = tt
reason_told Short state before now (Cancelled begun other) is = tt
reason_told Short state before now (Exhausted last) is = tt
reason_told Short state before now (ReadFault b a) is = tt
reason_told Short state before now NoMemory is = tt
reason_told Short state before now (Damaged name) is = tt

pub reasons_told : (Short : Type 0) (state : State) (before now : ℕ) (why : Option Refused) → IfSome why (HasReason Short state before now) → IfSome why (IsTold before now)
reasons_told Short state before now None is = tt
reasons_told Short state before now (Some why) is = reason_told Short state before now why is

-- reading a file is no device call
pub unreadable_told : (Tells PortsFail : Type 0) (first last before now : ℕ) (why : Refused) → IsUnreadable Tells PortsFail first last why → IsTold before now why
unreadable_told Tells PortsFail first last before now (Fault place b a) is = absurd is
unreadable_told Tells PortsFail first last before now (Stopped at) is = tt
unreadable_told Tells PortsFail first last before now (Backwards clock) is = tt
unreadable_told Tells PortsFail first last before now (Pinned pin limit) is = tt
unreadable_told Tells PortsFail first last before now NothingDue is = tt
unreadable_told Tells PortsFail first last before now (Cancelled begun other) is = tt
unreadable_told Tells PortsFail first last before now (Exhausted place) is = tt
unreadable_told Tells PortsFail first last before now (ReadFault b a) is = tt
unreadable_told Tells PortsFail first last before now NoMemory is = tt
unreadable_told Tells PortsFail first last before now (Damaged name) is = tt

pub changes_told : (Tells PortsFail : Type 0) (old new : View) (first last : ℕ) (why : Refused) → HasReasonOfChange Tells PortsFail old new first last why → IsTold old.faults new.faults why
changes_told Tells PortsFail old new first last why (inl is) = reason_told ((SeesRoom old.state → ⊥) × IsShortOfRoom Tells old.state new) old.state old.faults new.faults why is
changes_told Tells PortsFail old new first last why (inr is) = unreadable_told Tells PortsFail first last old.faults new.faults why is.2

-- Where there was no room

with_premise : (Premise Short : Type 0) → Premise → (state : State) (before now : ℕ) (why : Refused) → HasReason Short state before now why → HasReason (Premise × Short) state before now why
with_premise Premise Short premise state before now (Exhausted last) is = (is.0, is.1, or_short is.2)
  where
    or_short : (state.count ≡ max_place) ⊎ Short → (state.count ≡ max_place) ⊎ (Premise × Short)
    or_short (inl last) = inl last
    or_short (inr short) = inr (premise, short)
with_premise Premise Short premise state before now (Fault place b a) is = is
with_premise Premise Short premise state before now (Stopped at) is = is
with_premise Premise Short premise state before now (Backwards clock) is = is
with_premise Premise Short premise state before now (Pinned pin limit) is = is
with_premise Premise Short premise state before now NothingDue is = is
with_premise Premise Short premise state before now (Cancelled begun other) is = is
with_premise Premise Short premise state before now (ReadFault b a) is = is
with_premise Premise Short premise state before now NoMemory is = is
with_premise Premise Short premise state before now (Damaged name) is = is

-- room couldn't be made, for numbers or for a file that couldn't be read
pub reason_of_room : (Tells PortsFail : Type 0) (old new : View) (first last : ℕ) (why : Refused) → (SeesRoom old.state → ⊥) → old.state.stopped ≡ None
    → HasReason (IsShortOfRoom Tells old.state new) old.state old.faults new.faults why ⊎ IsUnreadable Tells PortsFail first last why → HasReasonOfChange Tells PortsFail old new first last why
reason_of_room Tells PortsFail old new first last why full runs (inl is) = inl (with_premise (SeesRoom old.state → ⊥) (IsShortOfRoom Tells old.state new) full old.state old.faults new.faults why is)
reason_of_room Tells PortsFail old new first last why full runs (inr is) = inr (full, runs, is)

-- a call that wasn't begun is no failure
pub not_begun : (state : State) (why : Refused) → MayRefuse state why → failure_of why ≡ None
not_begun state (Fault place before now) may = absurd may
not_begun state (Stopped at) may = refl
not_begun state (Backwards clock) may = refl
not_begun state (Pinned pin limit) may = refl
not_begun state NothingDue may = refl
not_begun state (Cancelled begun now) may = refl
not_begun state (Exhausted last) may = refl
not_begun state (ReadFault before now) may = refl
not_begun state NoMemory may = refl
not_begun state (Damaged name) may = refl

-- nor is a begin that was refused
pub no_failure_of_begin : (Tells : Type 0) (view : View) (why : Refused) → HasReasonOfBegin Tells view why → failure_of why ≡ None
no_failure_of_begin Tells view (Fault place before now) is = absurd is
no_failure_of_begin Tells view (Stopped at) is = refl
no_failure_of_begin Tells view (Backwards clock) is = refl
no_failure_of_begin Tells view (Pinned pin limit) is = refl
no_failure_of_begin Tells view NothingDue is = refl
no_failure_of_begin Tells view (Cancelled begun now) is = refl
no_failure_of_begin Tells view (Exhausted last) is = refl
no_failure_of_begin Tells view (ReadFault before now) is = refl
no_failure_of_begin Tells view NoMemory is = refl
no_failure_of_begin Tells view (Damaged name) is = refl

-- nor is a read
pub no_failure_of_read : (why : ReadRefused) → failure_of (told_as why) ≡ None
no_failure_of_read (reads.ReadFault before after) = refl
no_failure_of_read (reads.Damaged name) = refl
no_failure_of_read reads.NoMemory = refl
