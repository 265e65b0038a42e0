-- The reasons of refusals, as a run tells them.
use Rattle.std.proofs.Common.{◌≡◌, ◌⊎◌, inl, inr, ℕ, ◌+◌, List, None, Result, Err, refl, sym, ap, ◌∙◌, subst}
use Rattle.lethe_base.specs.Counts.{Rose}
use Rattle.lethe_base.specs.History.{History}
use Rattle.lethe_base.specs.Limits.{max_place}
use Rattle.lethe_base.specs.declared.call.Call.{Call}
use Rattle.lethe_base.specs.declared.refused.Refused.{Refused}
use Rattle.lethe_base.specs.declared.refused.Refused.TheVariants.{Fault, Stopped, Backwards, Pinned, NothingDue, Cancelled, Exhausted, ReadFault, NoMemory, Damaged}
use Rattle.lethe_disk.specs.declared.cursor.ReadRefused.{ReadRefused}
use Rattle.lethe_disk.specs.declared.cursor.ReadRefused.TheVariants as reads
use Rattle.lethe_stored.specs.Files.{StoredFile}
use Rattle.lethe_state.specs.declared.state.State.{State}
use Rattle.lethe_job.specs.Jobs.{IsUnread, told_as}
use Rattle.lethe_job.specs.Tasks.{AreSound}
use Rattle.lethe_core.specs.Asked.{refused_to}
use Rattle.lethe_core.specs.Reasons.{HasReason, IsUnreadable}

-- the reason is one for an earlier state that was stopped as this one, with as many places, and for what follows from the want of numbers
module _ (Short Other : Type 0) (old new : State) (before now : ℕ) (stopped : new.stopped ≡ old.stopped) (count : new.count ≡ old.count) where
  full_on : (new.count ≡ max_place) ⊎ Short → (Short → Other) → (old.count ≡ max_place) ⊎ Other
  full_on (inl full) more = inl (sym count ∙ full)
  full_on (inr short) more = inr (more short)

  pub reason_on : (why : Refused) → HasReason Short new before now why → ((last : ℕ) → why ≡ Exhausted last → new.stopped ≡ None → Short → Other) → HasReason Other old before now why
  reason_on (Fault place b a) is more = (sym stopped ∙ is.0, is.1 ∙ ap (λ n. n + 1) count, is.2, is.3, is.4)
  reason_on (Stopped at) is more = sym stopped ∙ is
  reason_on (Exhausted last) is more = (sym stopped ∙ is.0, is.1, full_on is.2 (more last refl is.0))
  reason_on NoMemory is more = tt
  reason_on (Backwards clock) is more = is
  reason_on (Pinned pin limit) is more = is
  reason_on NothingDue is more = is
  reason_on (Cancelled begun other) is more = is
  reason_on (ReadFault b a) is more = is
  reason_on (Damaged name) is more = is

-- on a disk that tells what it holds
pub unreadable_told : (Tells PortsFail : Type 0) (before now : ℕ) (why : Refused) → Tells → IsUnreadable Tells PortsFail before now why → IsUnreadable (Unit {0}) PortsFail before now why
unreadable_told Tells PortsFail before now (ReadFault b a) told is = is
unreadable_told Tells PortsFail before now (Damaged name) told is = absurd (is told)
unreadable_told Tells PortsFail before now (Fault place b a) told is = is
unreadable_told Tells PortsFail before now (Stopped at) told is = is
unreadable_told Tells PortsFail before now (Exhausted last) told is = is
unreadable_told Tells PortsFail before now NoMemory told is = is
unreadable_told Tells PortsFail before now (Backwards clock) told is = is
unreadable_told Tells PortsFail before now (Pinned pin limit) told is = is
unreadable_told Tells PortsFail before now NothingDue told is = is
unreadable_told Tells PortsFail before now (Cancelled begun other) told is = is

-- Files that could not be read

read_history : (h : History) (call : Call) (told : ReadRefused) → refused_to h 0 call (told_as told) ≡ h
read_history h call (reads.ReadFault b a) = refl
read_history h call (reads.Damaged name) = refl
read_history h call reads.NoMemory = refl

-- what was refused for that is in no history
pub unread_history : (Tells PortsFail : Type 0) (files : List StoredFile) (old new : ℕ) (h : History) (call : Call) (why : Refused) → IsUnread Tells PortsFail files old new why → refused_to h 0 call why ≡ h
unread_history Tells PortsFail files old new h call why is = ap (refused_to h 0 call) is.is ∙ read_history h call is.told

module _ (Tells PortsFail Short : Type 0) (files : List StoredFile) (old new : ℕ) (state : State) (before now : ℕ) where
  abbrev pub Cause : Refused → Type 0
  Cause why = HasReason Short state before now why ⊎ IsUnreadable (Unit {0}) PortsFail old new why

  read_cause : Tells → AreSound files → (why : Refused) (is : IsUnread Tells PortsFail files old new why) (told : ReadRefused) → is.told ≡ told → Cause (told_as told)
  read_cause tells sound why is (reads.ReadFault b a) e =
      let err : ◌≡◌ {A = Result (Unit {0}) ReadRefused} (Err is.told) (Err (reads.ReadFault b a)) = λ i. Err (e i) in
      let told = is.cause.fault b a err in
      inr (is.can_fail (b, a, err), told.0, told.1, subst (λ n. Rose n new) told.0 (subst (Rose b) told.1 told.2))
  read_cause tells sound why is (reads.Damaged name) e = absurd (is.undamaged tells sound name e)
  read_cause tells sound why is reads.NoMemory e = inl tt

  -- there was no memory, or a fetch failed
  pub unread_cause : Tells → AreSound files → (why : Refused) → IsUnread Tells PortsFail files old new why → Cause why
  unread_cause tells sound why is = subst Cause (sym is.is) (read_cause tells sound why is is.told refl)
