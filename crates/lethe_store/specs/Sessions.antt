-- What a session knows before and behind its calls.
use Rattle.std.specs.Prelude.{◌≡◌, ℕ, ◌+◌, List, [], ◌++◌, length, Some}
use Rattle.lethe_turn.specs.Lists.{IsBeginning, placed}
use Rattle.lethe_turn.specs.Seats.{HasSeenMore, IsFree, KnowsTheWhole, Seated, first_view, left_of, right_of}
use Rattle.lethe_turn.specs.declared.view.View.{View}
use Rattle.lethe_store.specs.StoreViews.{StoreView, IsSameStore}

module _ {E M V : Type 0} where
  -- It knows the store that was opened, and how many entries lay before its first one, by how many changes that store counted.
  abbrev pub KnowsOpened : (ℕ → ℕ) → (V → StoreView) → View V E M → Type 0
  KnowsOpened start see v = (o : V) × (v.opened ≡ Some o) × (v.start ≡ start (see o).view.state.count)

  -- it is ready for a call: it has parts and no turn, and knows the opened store
  abbrev pub IsReady : (ℕ → ℕ) → (V → StoreView) → Seated E M V → Type 0
  IsReady start see m = IsFree m × KnowsOpened start see m.0

  -- it is the first one, over the store as it was handed in
  abbrev pub IsFirst : Type 0 → (V → StoreView) → StoreView → ℕ → Seated E M V → Type 0
  IsFirst Tells see handed count m = (o : V) × (m ≡ (first_view o count, [])) × IsSameStore Tells handed (see o)

  -- the store is one to which what it has seen and noted leads from the opened one
  abbrev pub IsLedTo : (V → StoreView) → (StoreView → List E → List M → StoreView → Type 0) → View V E M → StoreView → Type 0
  IsLedTo see since v x = (o : V) → v.opened ≡ Some o → since (see o) v.seen v.noted x

-- It has made a call: it has seen and noted as much or more, and behind all that stand these entries and these marks, which are its own. Nothing else of it is changed.
pub record HasDone {E M V : Type 0} (said : List E) (noted : List M) (v w : View V E M) : Type 0 where
  pub seen : (before : List E) × IsBeginning v.seen before × (w.seen ≡ before ++ said)
  pub noted_is : (before : List M) × IsBeginning v.noted before × (w.noted ≡ before ++ noted)
  pub mine : w.mine ≡ v.mine ++ placed (v.start + length seen.0 + 1) said
  pub marks : w.marks ≡ v.marks ++ noted
  pub parts : w.parts ≡ v.parts
  pub opened : w.opened ≡ v.opened
  pub start : w.start ≡ v.start

-- It was split: it has seen and noted as much or more, as the other one then has, which has half of its parts, rounded down, and no entry and no mark of its own.
pub record HasSplit {E M V : Type 0} (v w other : View V E M) : Type 0 where
  pub at : View V E M
  pub more : HasSeenMore v at
  pub left : w ≡ left_of at
  pub right : other ≡ right_of at

-- It was the last one to have the turn, behind which it had seen the whole history and noted the whole diary. They lead to the store that came out.
pub record HasFinished {E M V : Type 0} (see : V → StoreView) (since : StoreView → List E → List M → StoreView → Type 0) (fits : List M → Type 0) (v : View V E M) (x : StoreView) : Type 0 where
  pub last : View V E M
  pub more : HasSeenMore v last
  pub leads : IsLedTo see since last x
  pub knows : KnowsTheWhole fits last
