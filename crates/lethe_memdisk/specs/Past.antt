-- Objects with the calls that made them, as what they began from and what the calls did.
use Rattle.std.specs.Prelude.{◌≤◌, ℕ, List, [], ◌∷◌, length, drop, reverse, ◌-◌, Bool, refl}
use Rattle.std.specs.Coded.{Coded, code_by, coded_ℕ, coded×}
use Rattle.std.specs.FinMap.{insert}
use Rattle.lethe_base.specs.declared.name.Name.{Name}
use Rattle.lethe_disk.specs.Directory.{Directory}
use Rattle.lethe_memdisk.specs.declared.past.Call.{Call}
use Rattle.lethe_memdisk.specs.Objects.{directory_code}
use Rattle.lethe_memdisk.specs.Codes.{effects_code}
use Rattle.lethe_memdisk.specs.Effects.{Effect, after, crashed}
use Rattle.lethe_memdisk.specs.Undo.{start_of, effects_of, Follows}

pub record Kept : Type 0 where
  pub start : Directory
  -- the latest first
  pub effects : List Effect
  -- how many calls can be kept
  pub room : ℕ

-- how it is stored
abbrev pub kept_code : Coded Kept
kept_code = code_by (Directory × (List Effect × ℕ)) (coded× directory_code (coded× effects_code coded_ℕ)) (λ k. (k.start, (k.effects, k.room))) (λ p. record { start = p.0; effects = (p.1).0; room = (p.1).1 }) (λ _. refl)

-- the objects now, and the calls, the earliest first
abbrev pub kept_of : Directory → List Call → ℕ → Kept
kept_of now calls room = record { start = start_of now (reverse calls); effects = effects_of now (reverse calls); room = room }

pub record IsKept (now : Directory) (calls : List Call) (room capacity : ℕ) : Type 0 where
  pub follows : Follows now (reverse calls)
  pub roomy : room ≤ capacity

abbrev pub now_of : Kept → Directory
now_of kept = after kept.start kept.effects

-- one call more
abbrev pub with_effect : Effect → Kept → Kept
with_effect effect kept = record kept { effects = effect ∷ kept.effects }

-- begun anew from what it is, with these bytes in an object
abbrev pub swapped : Name → List ℕ → Kept → Kept
swapped name bytes kept = record kept { start = insert (now_of kept) name bytes; effects = [] }

-- what a crash after so many calls leaves of it
abbrev pub left_of : ℕ → ℕ → Bool → Kept → Directory
left_of calls fill keep kept = crashed fill keep kept.start (drop (length kept.effects - calls) kept.effects)
