-- The rule of the turn: what holds between any two steps of its seats.
-- The words are the number of tickets drawn and the ticket that is served, both modulo 2 ^ 64, and the count. The one slot has the value, or is out with the seat that has the turn.
use Rattle.std.specs.Prelude.{◌≡◌, ◌≢◌, ℕ, ◌+◌, ◌%◌, ◌^◌, ◌<◌, ◌≤◌, List, [], ◌∷◌, length, slice_index, Option, Some}
use mathlib.Core.Option.{some, none}
use mathlib.Core.Option as maybe
use lib.ListN.{get_elem?}
use Rattle.atomic_table.specs.Table.{State}
use Rattle.lethe_turn.specs.Lists.{IsBeginning, total, placed, AllStand}
use Rattle.lethe_turn.specs.declared.view.View.{View}

module _ {E M V : Type 0} where
  -- what a seat knows is so, of the opening, the history, the diary, the tickets drawn and the ticket that is served
  pub record Knows (opened : V) (start : ℕ) (fits : List M → Type 0) (history : List E) (diary : List M) (drawn served : ℕ) (v : View V E M) : Type 0 where
    pub opened_is : 0 < v.parts → v.opened ≡ Some opened
    pub start_is : 0 < v.parts → v.start ≡ start
    pub seen : IsBeginning v.seen history
    pub told : IsBeginning v.told history
    pub noted : IsBeginning v.noted diary
    pub heard : IsBeginning v.heard diary
    pub fitting : fits v.marks
    pub mine : AllStand start history v.mine
    -- a seat with no part has no entry, no ticket and no mark
    pub spent : v.parts ≡ 0 → (v.mine ≡ []) × (v.waits ≡ 0) × (v.marks ≡ [])
    pub waits : (v.waits ≤ 1) × (0 < v.holds → v.waits ≡ 1)
    pub ticket : v.waits ≡ 1 → (served ≤ v.ticket) × (v.ticket < drawn)
    -- who has the turn has seen and noted the whole
    pub turn : 0 < v.holds → (v.ticket ≡ served) × (v.seen ≡ history) × (v.noted ≡ diary)

  -- the value is out of its slot with the seat that has the turn, or it is there, and is one that the history leads to
  pub data Slot (leads : List E → V → Type 0) (history : List E) (views : List (View V E M)) (homes : List (maybe.Option (Option V))) : Type 0 where
    out : (i : ℕ) (v : View V E M) → get_elem? views i ≡ some v → v.holds ≡ 1 → homes ≡ none ∷ [] → Slot leads history views homes
    home : (x : V) → homes ≡ some (Some x) ∷ [] → leads history x → ((i : ℕ) (v : View V E M) → get_elem? views i ≡ some v → v.holds ≢ 1) → Slot leads history views homes

  -- there are one history and one diary since the opening, of which this holds
  pub record Kept (since : V → List E → List M → V → Type 0) (fits : List M → Type 0) (opened : V) (start : ℕ) (s : State (Option V) (View V E M)) : Type 0 where
    pub history : List E
    pub diary : List M
    pub drawn : ℕ
    pub served : ℕ
    pub wide : length s.words ≡ 3
    pub tickets : slice_index s.words 0 ≡ drawn % 2 ^ 64
    pub serving : slice_index s.words 1 ≡ served % 2 ^ 64
    pub count : slice_index s.words 2 ≡ start + length history
    pub few : start + length history < 2 ^ 62
    -- the tickets that aren't served yet are those of the seats that wait or have the turn
    pub line : total (λ (v : View V E M). v.waits) s.views + served ≡ drawn
    pub parts : total (λ (v : View V E M). v.parts) s.views ≡ 2 ^ 62
    -- each place is the own one of exactly one seat, and each mark stands with exactly one, however they are weighed
    pub once : (weight : ℕ × E → ℕ) → total (λ (v : View V E M). total weight v.mine) s.views ≡ total weight (placed (start + 1) history)
    pub book : (weight : M → ℕ) → total (λ (v : View V E M). total weight v.marks) s.views ≡ total weight diary
    pub each : (i : ℕ) (v : View V E M) → get_elem? s.views i ≡ some v → Knows opened start fits history diary drawn served v
    -- no two seats have one ticket
    pub apart : (i j : ℕ) (v w : View V E M) → get_elem? s.views i ≡ some v → get_elem? s.views j ≡ some w → v.waits ≡ 1 → w.waits ≡ 1 → v.ticket ≡ w.ticket → i ≡ j
    pub slot : Slot (λ h. since opened h diary) history s.views s.homes
