-- The changes of a store in their one order, and the map and the clock that they leave.
use Rattle.std.specs.Prelude.{◌≡◌, ℕ, zero, suc, ◌-◌, ◌<◌, ◌≤◌, not, List, fold, filter, length, take, slice_get, Option, Some, None, refl}
use Rattle.std.specs.Coded.{Coded, code_by, coded_ℕ, coded_list, coded×}
use Rattle.std.specs.FinMap as map
use Rattle.lethe_base.specs.Limits.{max_place}
use Rattle.lethe_base.specs.Keys.{Bytes, key_cmp}
use Rattle.lethe_base.specs.Ranges.{Ends, in_range}
use Rattle.lethe_base.specs.declared.call.Call.{Call}
use Rattle.lethe_base.specs.declared.call.Call.TheVariants.{Put, Delete, Erase, Tick, Work}
use Rattle.lethe_base.specs.declared.call.Did.{Did}
use Rattle.lethe_base.specs.declared.call.Did.TheVariants.{Done, Failed}

-- a delete key and a value
abbrev pub Pair : Type 0
Pair = ℕ × Bytes

-- the pair of each key, in the order of the keys
abbrev pub Map : Type 0
Map = map.FinMap key_cmp Pair

-- how a map is stored
abbrev pub map_code : Coded Map
map_code = map.code (coded_list coded_ℕ) (coded× coded_ℕ (coded_list coded_ℕ))

-- what the changes so far have made
pub record State : Type 0 where
  pub map : Map
  pub clock : ℕ

-- how a state is stored
abbrev pub state_code : Coded State
state_code = code_by (Map × ℕ) (coded× map_code coded_ℕ) (λ s. (s.map, s.clock)) (λ p. record { map = p.0; clock = p.1 }) (λ _. refl)

-- an entry of a history: a call, who made it, and how it went
pub record Change : Type 0 where
  pub caller : ℕ
  pub call : Call
  pub did : Did

-- the changes of a store over its whole life
abbrev pub History : Type 0
History = List Change

-- the change at a place; places are numbered from 1
abbrev pub change_at : History → ℕ → Option Change
change_at h zero = None
change_at h (suc before) = slice_get h before

-- before any change
abbrev pub nothing : State
nothing = record { map = map.empty; clock = 0 }

-- without the keys whose delete key is in the range
abbrev pub without_range : Ends → Map → Map
without_range range m = map.from_sorted (filter (λ e. not (in_range range (e.1).0)) (map.entries m))

-- what a call that is done makes of a state
abbrev pub done : Call → State → State
done (Put key dkey value) s = record s { map = map.insert s.map key (dkey, value) }
done (Delete key) s = record s { map = map.remove s.map key }
done (Erase range) s = record s { map = without_range range s.map }
done (Tick to) s = record s { clock = to }
done Work s = s

-- a call that failed changes nothing
abbrev pub outcome : Did → Call → State → State
outcome Done call s = done call s
outcome (Failed before after) call s = s

abbrev pub changed : State → Change → State
changed s change = outcome change.did change.call s

-- the state after a history
abbrev pub after : History → State
after h = fold changed nothing h

-- the clock before the change at a place
abbrev pub clock_before : History → ℕ → ℕ
clock_before h place = (after (take (place - 1) h)).clock

-- no change has failed
abbrev pub AreDone : History → Type 0
AreDone h = (place : ℕ) (change : Change) → change_at h place ≡ Some change → change.did ≡ Done

-- What a store may have accepted.
pub record IsLegal (h : History) : Type 0 where
  pub few : length h ≤ max_place
  -- only the last change may have failed
  pub lasts : (place : ℕ) (change : Change) → change_at h place ≡ Some change → place < length h → change.did ≡ Done
  -- work stands there only where it failed
  pub work : (place : ℕ) (change : Change) → change_at h place ≡ Some change → change.call ≡ Work → change.did ≡ Done → ⊥
  -- the clock doesn't go back
  pub forward : (place to : ℕ) (change : Change) → change_at h place ≡ Some change → change.call ≡ Tick to → change.did ≡ Done → clock_before h place ≤ to
