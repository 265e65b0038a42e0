-- The next numbers of what crashes leave.
use Rattle.std.proofs.Common.{◌≡◌, ◌≤◌, ◌+◌, ◌⊎◌, inl, inr, ℕ, None, ap, ◌∙◌, subst, arith}
use Rattle.std.proofs.lemmas.Bool.{cases_lt}
use Rattle.lethe_disk.specs.Directory.{Directory}
use Rattle.lethe_disk.specs.Disk.{Seen}
use Rattle.lethe_disk.specs.Goes.{Goes}
use Rattle.lethe_disk.specs.Quiet.{IsQuiet}
use Rattle.lethe_disk.proofs.Going.{goes_then, goes_weaker}
use Rattle.lethe_commit.specs.Switch.{HasGreatest}
use Rattle.lethe_stored.specs.Stored.{Stored, IsCoherent}
use Rattle.lethe_stored.specs.Encodes.{Encodes}
use Rattle.lethe_stored.specs.Numbers.{IsNextNumber, KeepsPace, GoesFrom}
use Rattle.lethe_stored.proofs.Unique.{none_or_some, one_stored}

-- what a directory encodes has its next number
pub next_of : (d : Directory) (s : Stored) (next : ℕ) → IsCoherent s → Encodes d s → IsNextNumber d next → next ≡ s.manifest.next
next_of d s next coherent e (inl none) = absurd (none_or_some d s.manifest.no none.0 e.greatest)
next_of d s next coherent e (inr there) = there.3 ∙ ap (λ (x : Stored). x.manifest.next) (one_stored d there.0 s there.1 coherent there.2 e)

pub next_of_none : (d : Directory) (next : ℕ) → HasGreatest None d → IsNextNumber d next → next ≡ 3
next_of_none d next none (inl new) = new.1
next_of_none d next none (inr there) = absurd (none_or_some d there.0.manifest.no none there.2.greatest)

-- what changes nothing draws no number
pub pace_quiet : (first : ℕ) (old new : Seen) → IsQuiet old new → KeepsPace first old.moment old.moment old → KeepsPace first old.moment old.moment new
pace_quiet first old new quiet before moment c low high left next is =
    let came = quiet.any_moment.each moment c low high left in
    let most = before old.moment came.0 (omega arith) (omega arith) came.1 next (subst (λ d. IsNextNumber d next) came.2 is) in
    omega (arith, most, low)

-- a run that leaves what is stored draws no number
pub pace_encoded : (s : Stored) (first : ℕ) (old new : Seen) → IsCoherent s → s.manifest.next ≤ first → Goes (λ c. Encodes c s) old new → KeepsPace first old.moment old.moment new
pace_encoded s first old new coherent below goes moment c low high left next is =
    let same = next_of c s next coherent (goes.each moment c low high left) is in
    omega (arith, same, below, low)

-- A step draws the numbers of so many objects and of a manifest. Up to as many calls as there are objects it leaves what was stored.
pub pace_stepped : (s t : Stored) (first count : ℕ) (old new : Seen) → IsCoherent s → IsCoherent t → s.manifest.next ≤ first → t.manifest.next ≤ first + count + 1 → Goes (λ c. Encodes c s ⊎ Encodes c t) old new
    → ((moment : ℕ) (c : Directory) → old.moment ≤ moment → moment ≤ new.moment → moment ≤ old.moment + count → new.left moment c → Encodes c s) → KeepsPace first old.moment old.moment new
pace_stepped s t first count old new coherent behind below above goes early moment c low high left next is = elim (cases_lt (old.moment + count) moment) [
  | inr soon ↦ let same = next_of c s next coherent (early moment c low high soon left) is in omega (arith, same, below, low)
  | inl late ↦ elim (goes.each moment c low high left) [
    | inl was ↦ let same = next_of c s next coherent was is in omega (arith, same, below, low)
    | inr now ↦ let same = next_of c t next behind now is in omega (arith, same, above, late)
  ]
]

-- one run behind another
pub pace_then : (P : Directory → Type 0) (first began since then : ℕ) (mid new : Seen) → KeepsPace first began since mid → Goes P mid new → then + began ≤ first + mid.moment → KeepsPace then mid.moment mid.moment new → KeepsPace first began since new
pace_then P first began since then mid new before goes fits behind moment c low high left next is = elim (cases_lt mid.moment moment) [
  | inr early ↦ before moment c low early ((goes.past moment c early).0 left) next is
  | inl late ↦ let more = behind moment c (omega arith) high left next is in omega (arith, more, fits)
]

pub goes_from_then : (P : Directory → Type 0) (first then : ℕ) (old mid new : Seen) → GoesFrom first P old mid → then + old.moment ≤ first + mid.moment → GoesFrom then P mid new → GoesFrom first P old new
goes_from_then P first then old mid new one fits two = record {
  goes = goes_then P old mid new one.goes two.goes;
  pace = pace_then P first old.moment old.moment then mid new one.pace two.goes fits two.pace;
}

pub goes_from_weaker : (P Q : Directory → Type 0) (first : ℕ) (old new : Seen) → ((c : Directory) → P c → Q c) → GoesFrom first P old new → GoesFrom first Q old new
goes_from_weaker P Q first old new weaker run = record { goes = goes_weaker P Q old new weaker run.goes; pace = run.pace }

-- a run that leaves what is stored
pub goes_from_encoded : (P : Directory → Type 0) (s : Stored) (first : ℕ) (old new : Seen) → IsCoherent s → s.manifest.next ≤ first → Goes (λ c. Encodes c s) old new → ((c : Directory) → Encodes c s → P c) → GoesFrom first P old new
goes_from_encoded P s first old new coherent below goes weaker = record { goes = goes_weaker (λ c. Encodes c s) P old new weaker goes; pace = pace_encoded s first old new coherent below goes }
