-- What a seat knows, and how a call changes it.
use Rattle.std.specs.Prelude.{◌≡◌, ℕ, ◌+◌, ◌-◌, ◌/◌, ◌%◌, ◌^◌, ◌<◌, List, [], ◌∷◌, ◌++◌, length, Option, Some, None}
use Rattle.atomic_table.specs.Table.{Me}
use Rattle.lethe_turn.specs.Lists.{IsBeginning, IsLonger, WeighsAs, WeighTogether, placed, AllStand}
use Rattle.lethe_turn.specs.declared.view.View.{View}

-- a seat's view, with the slot if it has taken it
abbrev pub Seated : Type 0 → Type 0 → Type 0 → Type 0
Seated E M V = Me (Option V) (View V E M)

module _ {E M V : Type 0} where
  -- the count, as far as the seat has seen the history
  abbrev pub count_of : View V E M → ℕ
  count_of v = v.start + length v.seen

  -- a seat with parts that has no ticket
  abbrev pub Idle : View V E M → Type 0
  Idle v = (0 < v.parts) × (v.waits ≡ 0) × (v.holds ≡ 0)

  -- the seat has parts, and it has no turn and no value
  abbrev pub IsFree : Seated E M V → Type 0
  IsFree m = (m.1 ≡ []) × Idle m.0

  -- the seat has the turn by the ticket of this number, and the value is out of its slot
  abbrev pub Holds : Seated E M V → ℕ → Type 0
  Holds m ticket = (m.0.waits ≡ 1) × (m.0.holds ≡ 1) × (m.0.ticket % 2 ^ 64 ≡ ticket) × (m.1 ≡ (0, None) ∷ [])

module _ {E M V : Type 0} where
  -- a seat that has seen this much, and has no entry, no mark and no ticket of its own
  abbrev pub fresh : Option V → ℕ → List E → List M → ℕ → View V E M
  fresh opened start seen noted parts = record { opened = opened; start = start; seen = seen; told = []; noted = noted; heard = []; mine = []; marks = []; parts = parts; waits = 0; ticket = 0; holds = 0 }

  -- the first seat of a turn has all parts
  abbrev pub first_view : V → ℕ → View V E M
  first_view opened start = fresh (Some opened) start [] [] (2 ^ 62)

  -- the entries stand behind all that the seat has seen, and are its own, at the places behind the count
  abbrev pub entered : List E → View V E M → View V E M
  entered said v = record v { seen = v.seen ++ said; mine = v.mine ++ placed (count_of v + 1) said }

  -- the turn is given back
  abbrev pub passed : View V E M → View V E M
  passed v = record v { waits = 0; holds = 0 }

  -- the turn is given back, and the marks stand behind all that the seat has noted and behind its own
  abbrev pub passed_noting : List M → View V E M → View V E M
  passed_noting said v = record v { noted = v.noted ++ said; marks = v.marks ++ said; waits = 0; holds = 0 }

  -- half of the parts, rounded down, goes
  abbrev pub left_of : View V E M → View V E M
  left_of v = record v { parts = v.parts - v.parts / 2 }

  -- the new seat has that half. It has seen and noted as much, and has no entry and no mark of its own
  abbrev pub right_of : View V E M → View V E M
  right_of v = fresh v.opened v.start v.seen v.noted (v.parts / 2)

  -- the seat has the entries, marks and parts of both, and of what the two have seen and noted the longer
  pub record Joined (v w both : View V E M) : Type 0 where
    pub seen : IsLonger v.seen w.seen both.seen
    pub noted : IsLonger v.noted w.noted both.noted
    pub mine : both.mine ≡ v.mine ++ w.mine
    pub marks : both.marks ≡ v.marks ++ w.marks
    pub parts : both.parts ≡ v.parts + w.parts
    pub opened : both.opened ≡ v.opened
    pub start : both.start ≡ v.start

module _ {E M V : Type 0} where
  -- the seat has seen and noted as much or more. What is its own, its parts and the opening are as before
  pub record HasSeenMore (v w : View V E M) : Type 0 where
    pub seen : IsBeginning v.seen w.seen
    pub noted : IsBeginning v.noted w.noted
    pub mine : w.mine ≡ v.mine
    pub marks : w.marks ≡ v.marks
    pub parts : w.parts ≡ v.parts
    pub opened : w.opened ≡ v.opened
    pub start : w.start ≡ v.start

  -- the value is one that the opening leads to, by what the seat has seen and noted
  abbrev pub LeadsTo : (V → List E → List M → V → Type 0) → View V E M → V → Type 0
  LeadsTo since v x = (opened : V) → v.opened ≡ Some opened → since opened v.seen v.noted x

  -- what the other seats have noted fits, and with the seat's own marks it is what the seat has noted
  abbrev pub OthersFit : (List M → Type 0) → View V E M → Type 0
  OthersFit fits v = (others : List M) × fits others × WeighTogether v.marks others v.noted

  -- the seat's own entries are all that it has seen, and its own marks all that it has noted
  abbrev pub HasAll : View V E M → Type 0
  HasAll v = WeighsAs v.mine (placed (v.start + 1) v.seen) × WeighsAs v.marks v.noted

  -- what a seat knows that has seen the whole history and noted the whole diary
  pub record KnowsTheWhole (fits : List M → Type 0) (v : View V E M) : Type 0 where
    pub few : count_of v < 2 ^ 62
    pub mine : AllStand v.start v.seen v.mine
    pub own : fits v.marks
    pub others : OthersFit fits v
    pub all : v.parts ≡ 2 ^ 62 → HasAll v

  -- there are a whole history and a whole diary, by which the opening leads to the value, and a seat that had seen and noted them would know this
  pub record Finished (since : V → List E → List M → V → Type 0) (fits : List M → Type 0) (v : View V E M) (x : V) : Type 0 where
    pub last : View V E M
    pub more : HasSeenMore v last
    pub leads : LeadsTo since last x
    pub knows : KnowsTheWhole fits last
