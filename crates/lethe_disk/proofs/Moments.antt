-- How a run of device calls goes on. S is what is known of the images now, R what is said of all moments.
use Rattle.std.proofs.Common.{◌≡◌, ◌≤◌, ◌+◌, ℕ, subst, sym, ◌∙◌, arith, inl, inr}
use Rattle.std.specs.Prelude.{◌⊎◌, Result, IsErrOf}
use Rattle.std.proofs.lemmas.Bool.{cases_lt}
use Rattle.lethe_disk.specs.declared.disk.DiskRefused.{DiskRefused}
use Rattle.lethe_disk.specs.declared.disk.DiskRefused.TheVariants.{NoMemory}
use Rattle.lethe_disk.specs.Directory.{Directory, IsSame}
use Rattle.lethe_disk.specs.Disk.{Seen, Image, IsSynced, IsIdle, Takes}
use Rattle.lethe_disk.specs.Runs.{Leads, Now, Throughout, After}

-- Before the first call

pub leads_start : (R : Directory → Directory → Type 0) (old : Seen) → ((d : Directory) → Image old d → R d d) → Leads R old old
leads_start R old itself = record {
  later = omega arith;
  past = λ m c le. (λ left. left, λ left. left);
  each = λ m c low high left. let is : m ≡ old.moment = omega arith in let here : Image old c = subst (λ n. old.left n c) is left in (c, here, itself c here);
}

pub now_start : (S : Directory → Directory → Type 0) (old : Seen) → ((d : Directory) → Image old d → S d d) → Now S old old
now_start S old itself c here = (c, here, itself c here)

pub after_start : (R S : Directory → Directory → Type 0) (old : Seen) → ((d : Directory) → Image old d → S d d) → ((d c : Directory) → Image old d → S d c → R d c) → After R S old old
after_start R S old itself allowed = record {
  each = leads_start R old (λ d here. allowed d d here (itself d here));
  last = now_start S old itself;
}

-- One call more

-- what is known of the images now
pub now_call : {T : Type 0} (S next step : Directory → Directory → Type 0) (result : Result T DiskRefused) (old mid new : Seen) → Now S old mid → Takes step result mid new
    → ((d e c : Directory) → Image old d → S d e → step e c → next d c) → Now next old new
now_call S next step result old mid new so_far call goes c here =
    let e = call.images c here in
    let d = so_far e.0 e.1 in
    (d.0, d.1, goes d.0 e.0 c d.1 d.2 e.2)

-- a call whose images R allows
pub leads_call : {T : Type 0} (R S step : Directory → Directory → Type 0) (result : Result T DiskRefused) (old mid new : Seen) → Leads R old mid → Takes step result mid new → Now S old new
    → ((d c : Directory) → Image old d → S d c → R d c) → Leads R old new
leads_call R S step result old mid new so_far call now allowed = record {
  later = omega (arith, so_far.later, call.later);
  past = λ m c le.
      let here = call.past m c (omega (arith, so_far.later)) in
      let before = so_far.past m c le in
      (λ left. before.0 (here.0 left), λ left. here.1 (before.1 left));
  each = λ m c low high left. elim (split m mid.moment new.moment high call.soon) [
    | inl early ↦ so_far.each m c low early ((call.past m c early).0 left)
    | inr last ↦ let here : Image new c = subst (λ n. new.left n c) last left in let d = now c here in (d.0, d.1, allowed d.0 c d.1 d.2)
  ];
}
  where
    split : (m a b : ℕ) → m ≤ b → b ≤ a + 1 → (m ≤ a) ⊎ (m ≡ b)
    split m a b le soon = elim (cases_lt a m) [
      | inl late ↦ inr (omega arith)
      | inr early ↦ inl early
    ]

-- both: the call takes S to the next stage, from which R follows
pub after_call : {T : Type 0} (R S next step : Directory → Directory → Type 0) (result : Result T DiskRefused) (old mid new : Seen) → After R S old mid → Takes step result mid new
    → ((d e c : Directory) → Image old d → S d e → step e c → next d c) → ((d c : Directory) → Image old d → next d c → R d c) → After R next old new
after_call R S next step result old mid new so_far call goes allowed =
    let now = now_call S next step result old mid new so_far.last call goes in
    record { each = leads_call R next step result old mid new so_far.each call now allowed; last = now }

-- a call that changes no object
pub after_same : {T : Type 0} (R S : Directory → Directory → Type 0) (result : Result T DiskRefused) (old mid new : Seen) → After R S old mid → Takes IsSame result mid new
    → ((d c : Directory) → Image old d → S d c → R d c) → After R S old new
after_same R S result old mid new so_far call allowed =
    after_call R S S IsSame result old mid new so_far call (λ d e c here stage same. subst (S d) (sym same) stage) allowed

-- Runs

-- a run inside a run
pub leads_leads : (R S Q : Directory → Directory → Type 0) (old mid new : Seen) → Leads R old mid → Leads S mid new → ((d c : Directory) → R d c → Q d c)
    → ((d e c : Directory) → Image old d → R d e → S e c → Q d c) → Leads Q old new
leads_leads R S Q old mid new first second weaker joined = record {
  later = omega (arith, first.later, second.later);
  past = λ m c le.
      let here = second.past m c (omega (arith, first.later)) in
      let before = first.past m c le in
      (λ left. before.0 (here.0 left), λ left. here.1 (before.1 left));
  each = λ m c low high left. elim (cases_lt mid.moment m) [
    | inr early ↦ let d = first.each m c low early ((second.past m c early).0 left) in (d.0, d.1, weaker d.0 c d.2)
    | inl late ↦
        let after_mid : mid.moment ≤ m = omega arith in
        let e = second.each m c after_mid high left in
        let d = first.each mid.moment e.0 first.later (omega arith) e.1 in
        (d.0, d.1, joined d.0 e.0 c d.1 d.2 e.2)
  ];
}

-- by a relation that is weaker
pub leads_weaker : (R Q : Directory → Directory → Type 0) (old new : Seen) → Leads R old new → ((d c : Directory) → Image old d → R d c → Q d c) → Leads Q old new
leads_weaker R Q old new run weaker = record {
  later = run.later;
  past = run.past;
  each = λ m c low high left. let d = run.each m c low high left in (d.0, d.1, weaker d.0 c d.1 d.2);
}

-- what holds of all that the run may leave, from what held of the images before it
pub throughout_leads : (K P : Directory → Type 0) (R : Directory → Directory → Type 0) (old new : Seen) → Leads R old new → ((d : Directory) → Image old d → K d) → ((d c : Directory) → K d → R d c → P c) → Throughout P old new
throughout_leads K P R old new run before goes m c low high left =
    let d = run.each m c low high left in
    goes d.0 c (before d.0 d.1) d.2

-- a run behind another
pub throughout_then : (P : Directory → Type 0) (R : Directory → Directory → Type 0) (old mid new : Seen) → Throughout P old mid → old.moment ≤ mid.moment → Leads R mid new → Throughout P mid new → Throughout P old new
throughout_then P R old mid new first later run second m c low high left = elim (cases_lt mid.moment m) [
  | inr early ↦ first m c low early ((run.past m c early).0 left)
  | inl late ↦ let after_mid : mid.moment ≤ m = omega arith in second m c after_mid high left
]

-- Images

-- want of memory leaves the images as they were
pub refused_images : {T : Type 0} (step : Directory → Directory → Type 0) (result : Result T DiskRefused) (old new : Seen) → Takes step result old new → IsErrOf result NoMemory → (c : Directory) → Image new c → Image old c
refused_images step result old new call refused c here =
    let is : new.moment ≡ old.moment = (call.no_memory refused).0 in
    (call.past old.moment c (omega arith)).0 (subst (λ n. new.left n c) is here)

-- and so a disk that was synced is synced
pub refused_synced : {T : Type 0} (step : Directory → Directory → Type 0) (result : Result T DiskRefused) (old new : Seen) → Takes step result old new → IsErrOf result NoMemory → IsSynced old → IsSynced new
refused_synced step result old new call refused synced c here =
    synced c (refused_images step result old new call refused c here) ∙ sym (call.no_memory refused).1

-- what a crash may make of a disk that was synced, in one call
pub synced_step : {T : Type 0} (step : Directory → Directory → Type 0) (result : Result T DiskRefused) (old new : Seen) → Takes step result old new → IsSynced old → (c : Directory) → Image new c → step old.directory c
synced_step step result old new call synced c here =
    let d = call.images c here in
    subst (λ e. step e c) (synced d.0 d.1) d.2

-- a call that changes no object leaves a disk synced that was
pub same_synced : {T : Type 0} (result : Result T DiskRefused) (old new : Seen) → Takes IsSame result old new → new.directory ≡ old.directory → IsSynced old → IsSynced new
same_synced result old new call is synced c here = synced_step IsSame result old new call synced c here ∙ sym is

-- Where nothing was done

pub now_idle : (S : Directory → Directory → Type 0) (old mid new : Seen) → Now S old mid → IsIdle mid new → Now S old new
now_idle S old mid new so_far idle c here = so_far c (subst (λ n. mid.left n c) idle.moment ((idle.left new.moment c).0 here))

pub leads_idle : (R : Directory → Directory → Type 0) (old mid new : Seen) → Leads R old mid → IsIdle mid new → Leads R old new
leads_idle R old mid new run idle = record {
  later = omega (arith, run.later, idle.moment);
  past = λ m c le.
      (λ left. (run.past m c le).0 ((idle.left m c).0 left), λ left. (idle.left m c).1 ((run.past m c le).1 left));
  each = λ m c low high left. run.each m c low (omega (arith, high, idle.moment)) ((idle.left m c).0 left);
}
