-- What a thread's seat knows, before and behind a call.
use Rattle.std.specs.Prelude.{◌≡◌, ℕ, ◌<◌, ◌+◌, List, [], ◌∷◌, ◌++◌, length, Some, None, Result, Ok, Err}
use mathlib.Core.Option.{some}
use lib.ListN.{get_elem?}
use Rattle.lethe_turn.specs.Lists.{IsBeginning}
use Rattle.lethe_turn.specs.Seats.{Seated, IsFree, count_of}
use Rattle.lethe_turn.specs.declared.view.View.{View}
use Rattle.lethe_test_turn.specs.declared.sum.Entry.{Entry}
use Rattle.lethe_test_turn.specs.declared.sum.Mark.{Mark}
use Rattle.lethe_test_turn.specs.declared.sum.Refused.{Refused}
use Rattle.lethe_test_turn.specs.declared.sum.Refused.TheVariants.{Ceiling, Full}
use Rattle.lethe_test_turn.specs.declared.sum.Sum.{Sum}
use Rattle.lethe_test_turn.specs.Sums.{last_ceiling}

abbrev pub Known : Type 0
Known = View Sum Entry Mark

-- the seat has no turn. It knows the sum that the turn began with, which had no ceiling
abbrev pub IsReady : Seated Entry Mark Sum → Type 0
IsReady m = IsFree m × ((opened : Sum) × (m.0.opened ≡ Some opened) × (m.0.start ≡ opened.count) × (opened.ceiling ≡ None))

-- the addition stands at this place, behind all that the seat has seen, and is one more of its own
pub record HasAdded (e : Entry) (place : ℕ) (v w : Known) : Type 0 where
  pub seen : (before : List Entry) × IsBeginning v.seen before × (w.seen ≡ before ++ e ∷ [])
  pub place_is : place ≡ count_of w
  pub mine : w.mine ≡ v.mine ++ (place, e) ∷ []
  pub parts : w.parts ≡ v.parts
  pub opened : w.opened ≡ v.opened
  pub start : w.start ≡ v.start

-- the ceiling stands behind all that the seat has noted, and is one more of its own
pub record HasNoted (m : Mark) (v w : Known) : Type 0 where
  pub noted : (before : List Mark) × IsBeginning v.noted before × (w.noted ≡ before ++ m ∷ [])
  pub marks : w.marks ≡ v.marks ++ m ∷ []
  pub mine : w.mine ≡ v.mine
  pub parts : w.parts ≡ v.parts
  pub opened : w.opened ≡ v.opened
  pub start : w.start ≡ v.start

-- a ceiling that refused the seat is the last one that it has noted, and isn't 0
abbrev pub IsKnown : Refused → Known → Type 0
IsKnown (Ceiling ceiling) w = (last_ceiling None w.noted ≡ Some ceiling) × (0 < ceiling)
IsKnown Full w = Unit {0}

-- the seat has seen more, and this many entries more are its own
pub record Acted (n : ℕ) (v w : Known) : Type 0 where
  pub parts : w.parts ≡ v.parts
  pub opened : w.opened ≡ v.opened
  pub start : w.start ≡ v.start
  pub own : (new : List (ℕ × Entry)) × (w.mine ≡ v.mine ++ new) × (length new ≡ n)

-- where a place was answered, the addition stands there, behind the count of the opening
abbrev pub StoodAt : ℕ → List Entry → Entry → Result ℕ Refused → Type 0
StoodAt start additions e (Ok place) = (before : ℕ) × (place ≡ start + before + 1) × (get_elem? additions before ≡ some e)
StoodAt start additions e (Err why) = Unit {0}

abbrev pub answered : Result ℕ Refused → ℕ
answered (Ok place) = 1
answered (Err why) = 0
