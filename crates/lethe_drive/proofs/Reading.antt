-- Reads: a get and a scan.
use Rattle.std.proofs.Common.{◌≡◌, ◌⊎◌, inl, inr, ℕ, List, Option, Result, Ok, Err, refl, subst}
use Rattle.std.specs.Prelude.{IfErr, IfOk, IsErrOf}
use Rattle.lethe_base.specs.Counts.{Rose}
use Rattle.lethe_base.specs.History.{History, after}
use Rattle.lethe_base.specs.Read.{Answer, Read, answer}
use Rattle.lethe_base.specs.declared.name.Name.{Name}
use Rattle.lethe_base.specs.declared.refused.Refused.{Refused}
use Rattle.lethe_base.specs.declared.refused.Refused.TheVariants.{Fault, Stopped, Backwards, Pinned, NothingDue, Cancelled, Exhausted, ReadFault, NoMemory, Damaged}
use Rattle.lethe_stored.specs.Stored.{Stored}
use Rattle.lethe_core.specs.Reasons.{IsUnreadable}
use Rattle.lethe_core.specs.View.{View}
use Rattle.lethe_read.specs.Refusals.{IsReadRefusal}
use Rattle.lethe_drive.specs.Answers.{IsRead, ReadAnswers}
use Rattle.lethe_drive.specs.Moments.{Going, IsAllButPort, moment_of}

module _ {T : Type 0} (PortsFail : Type 0) (read : Read) (told : T → Answer) (h : History) (view : View) (s : Stored) (fetches_before fetches_now faults_before faults_now begun : ℕ) (there : Option Going) (snapshots : List ℕ) where
  same : IsAllButPort (moment_of view s fetches_before faults_before begun there snapshots) (moment_of view s fetches_now faults_now begun there snapshots)
  same = record { stored = refl; state = refl; levels = refl; retired = refl; pins = refl; flights = refl; directory = refl; calls = refl; faults = refl; begun = refl; there = refl; snapshots = refl }

  read_refused : (why : Refused) → IsReadRefusal why → ((before after : ℕ) → why ≡ ReadFault before after → (before ≡ faults_before) × (after ≡ faults_now) × Rose before after)
      → ((before after : ℕ) → why ≡ ReadFault before after → PortsFail) → ((name : Name) → why ≡ Damaged name → ⊥) → (why ≡ NoMemory) ⊎ IsUnreadable (Unit {0}) PortsFail faults_before faults_now why
  read_refused (ReadFault before after) is fault can_fail undamaged =
      let counts = fault before after refl in
      inr (can_fail before after refl, counts.0, counts.1, subst (λ n. Rose n faults_now) counts.0 (subst (Rose before) counts.1 counts.2))
  read_refused NoMemory is fault can_fail undamaged = inl refl
  read_refused (Damaged name) is fault can_fail undamaged = absurd (undamaged name refl)
  read_refused (Fault place before after) is fault can_fail undamaged = absurd is
  read_refused (Stopped at) is fault can_fail undamaged = absurd is
  read_refused (Backwards clock) is fault can_fail undamaged = absurd is
  read_refused (Pinned pin limit) is fault can_fail undamaged = absurd is
  read_refused NothingDue is fault can_fail undamaged = absurd is
  read_refused (Cancelled first now) is fault can_fail undamaged = absurd is
  read_refused (Exhausted last) is fault can_fail undamaged = absurd is

  read_answers : (result : Result T Refused) → IfOk result (λ given. answer (after h) read ≡ told given) → IfErr result IsReadRefusal
      → ((before after : ℕ) → IsErrOf result (ReadFault before after) → (before ≡ faults_before) × (after ≡ faults_now) × Rose before after)
      → ((before after : ℕ) → IsErrOf result (ReadFault before after) → PortsFail) → ((name : Name) → IsErrOf result (Damaged name) → ⊥)
      → ReadAnswers PortsFail read told h (moment_of view s fetches_before faults_before begun there snapshots) result (moment_of view s fetches_now faults_now begun there snapshots)
  read_answers (Ok given) is why fault can_fail undamaged = is
  read_answers (Err why) is refused fault can_fail undamaged = read_refused why refused (λ before after e. fault before after (err e)) (λ before after e. can_fail before after (err e)) (λ name e. undamaged name (err e))
    where
      err : {a b : Refused} → a ≡ b → ◌≡◌ {A = Result T Refused} (Err a) (Err b)
      err e = λ i. Err (e i)

  -- the answer of a read
  pub is_read : (result : Result T Refused) → IfOk result (λ given. answer (after h) read ≡ told given) → IfErr result IsReadRefusal
      → ((before after : ℕ) → IsErrOf result (ReadFault before after) → (before ≡ faults_before) × (after ≡ faults_now) × Rose before after)
      → ((before after : ℕ) → IsErrOf result (ReadFault before after) → PortsFail) → ((name : Name) → IsErrOf result (Damaged name) → ⊥)
      → IsRead PortsFail read told h (moment_of view s fetches_before faults_before begun there snapshots) result h (moment_of view s fetches_now faults_now begun there snapshots)
  is_read result is why fault can_fail undamaged = record { history = refl; answers = read_answers result is why fault can_fail undamaged; same = same }
