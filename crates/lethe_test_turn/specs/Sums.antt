-- Histories of additions, and diaries of ceilings.
use Rattle.std.specs.Prelude.{◌≡◌, ℕ, ◌+◌, ◌==◌, if◌then◌else◌, List, [], ◌∷◌, ◌++◌, length, Option, Some}
use Rattle.lethe_turn.specs.Lists.{total}
use Rattle.lethe_test_turn.specs.declared.sum.Entry.{Entry}
use Rattle.lethe_test_turn.specs.declared.sum.Mark.{Mark}
use Rattle.lethe_test_turn.specs.declared.sum.Refused.{Refused}
use Rattle.lethe_test_turn.specs.declared.sum.Refused.TheVariants.{Ceiling, Full}
use Rattle.lethe_test_turn.specs.declared.sum.Sum.{Sum}

abbrev pub addition : ℕ → ℕ → Entry
addition by amount = record { by = by; amount = amount }

abbrev pub ceiling_mark : ℕ → Mark
ceiling_mark ceiling = record { ceiling = ceiling }

abbrev pub sum_of : List Entry → ℕ
sum_of [] = 0
sum_of (e ∷ es) = e.amount + sum_of es

-- the ceiling that was set last, else the one before
abbrev pub last_ceiling : Option ℕ → List Mark → Option ℕ
last_ceiling before [] = before
last_ceiling before (m ∷ ms) = last_ceiling (Some m.ceiling) ms

abbrev pub added_to : ℕ → Sum → Sum
added_to amount x = record x { value = x.value + amount; count = x.count + 1 }

-- why the sum refuses an addition
abbrev pub IsReason : Refused → Sum → Type 0
IsReason (Ceiling ceiling) x = x.ceiling ≡ Some ceiling
IsReason Full x = Unit {0}

-- the sum is that of the history
pub record Stands (history : List Entry) (x : Sum) : Type 0 where
  pub value : x.value ≡ sum_of history
  pub count : x.count ≡ length history

-- whatever history the opened sum stood for, the sum stands for that with these additions. It has the ceiling that was set last
pub record Since (opened : Sum) (additions : List Entry) (ceilings : List Mark) (x : Sum) : Type 0 where
  pub stands : (history : List Entry) → Stands history opened → Stands (history ++ additions) x
  pub count : x.count ≡ opened.count + length additions
  pub ceiling : x.ceiling ≡ last_ceiling opened.ceiling ceilings

abbrev pub is_zero : Mark → ℕ
is_zero m = if m.ceiling == 0 then 1 else 0

-- no ceiling is 0
abbrev pub NoneIsZero : List Mark → Type 0
NoneIsZero ceilings = total is_zero ceilings ≡ 0
