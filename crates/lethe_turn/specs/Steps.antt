-- What each step on the turn's words and slot tells the seat that makes it.
use Rattle.std.specs.Prelude.{◌≡◌, ℕ, ◌+◌, ◌%◌, ◌^◌, ◌==◌, Bool, true, false, List, [], ◌∷◌, ◌++◌, Option, Some, None}
use Rattle.atomic_table.specs.Table.{Step}
use Rattle.lethe_turn.specs.Lists.{IsBeginning, IsLonger}
use Rattle.lethe_turn.specs.Seats.{Seated, count_of, fresh, entered, passed_noting, LeadsTo, KnowsTheWhole}
use Rattle.lethe_turn.specs.declared.view.View.{View}

module _ {E M V : Type 0} where
  -- a ticket was drawn, of the number found
  abbrev pub Drew : Step (Option V) → Seated E M V → ℕ → Seated E M V → Type 0
  Drew step m found m' = (ticket : ℕ) × (ticket % 2 ^ 64 ≡ found) × (m' ≡ (record m.0 { waits = 1; ticket = ticket; holds = 0 }, m.1))

  -- the seat has the turn, and has seen and noted the whole. By 1 it has the value too, by 2 it leaves that in its slot
  abbrev pub come : List E → List M → ℕ → View V E M → View V E M
  come history diary holds v = record v { seen = history; noted = diary; holds = holds }

  -- the turn came, with the value
  abbrev pub Came : (V → List E → List M → V → Type 0) → (List M → Type 0) → Seated E M V → Seated E M V → Type 0
  Came since fits m m' = (history : List E) × (diary : List M) × (x : V) × IsBeginning m.0.seen history × IsBeginning m.0.noted diary
      × LeadsTo since (come history diary 1 m.0) x × KnowsTheWhole fits (come history diary 1 m.0) × (m' ≡ (come history diary 1 m.0, (0, Some x) ∷ []))

  abbrev pub LookedIf : Bool → (V → List E → List M → V → Type 0) → (List M → Type 0) → Seated E M V → Seated E M V → Type 0
  LookedIf true since fits m m' = Came since fits m m'
  LookedIf false since fits m m' = m' ≡ m

  -- the turn came exactly where the number found is that of the seat's ticket
  abbrev pub Looked : (V → List E → List M → V → Type 0) → (List M → Type 0) → Step (Option V) → Seated E M V → ℕ → Seated E M V → Type 0
  Looked since fits step m found m' = LookedIf (found == m.0.ticket % 2 ^ 64) since fits m m'

  -- the turn came, and the value stays in its slot
  abbrev pub CameLast : Seated E M V → Seated E M V → Type 0
  CameLast m m' = (history : List E) × (diary : List M) × IsBeginning m.0.seen history × IsBeginning m.0.noted diary × (m' ≡ (come history diary 2 m.0, m.1))

  abbrev pub LookedLastIf : Bool → Seated E M V → Seated E M V → Type 0
  LookedLastIf true m m' = CameLast m m'
  LookedLastIf false m m' = m' ≡ m

  abbrev pub LookedLast : Step (Option V) → Seated E M V → ℕ → Seated E M V → Type 0
  LookedLast step m found m' = LookedLastIf (found == m.0.ticket % 2 ^ 64) m m'

  -- the longer of what was seen and what was told, and of what was noted and what was heard
  abbrev pub Compared : Step (Option V) → Seated E M V → ℕ → Seated E M V → Type 0
  Compared step m found m' = (seen : List E) × (noted : List M) × IsLonger m.0.seen m.0.told seen × IsLonger m.0.noted m.0.heard noted
      × (m' ≡ (record m.0 { seen = seen; told = []; noted = noted; heard = [] }, m.1))

  -- the number found is the count
  abbrev pub Learned : Step (Option V) → Seated E M V → ℕ → Seated E M V → Type 0
  Learned step m found m' = (m' ≡ m) × (found ≡ count_of m.0)

  abbrev pub Entered : List E → Step (Option V) → Seated E M V → ℕ → Seated E M V → Type 0
  Entered said step m stored m' = m' ≡ (entered said m.0, m.1)

  abbrev pub Passed : List M → Step (Option V) → Seated E M V → ℕ → Seated E M V → Type 0
  Passed said step m stored m' = m' ≡ (passed_noting said m.0, [])

  -- what the other seat has seen and noted is kept apart until it is compared
  abbrev pub both_of : View V E M → View V E M → View V E M
  both_of v w = record v { told = w.seen; heard = w.noted; mine = v.mine ++ w.mine; marks = v.marks ++ w.marks; parts = v.parts + w.parts }

  -- a seat that was taken in
  abbrev pub nobody : View V E M
  nobody = fresh None 0 [] [] 0
