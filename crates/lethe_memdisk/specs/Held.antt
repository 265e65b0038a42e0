-- A disk in memory: what it held and which calls it took, and which of its calls fail.
use Rattle.std.specs.Prelude.{◌≡◌, ◌≤◌, ◌<◌, ℕ, ◌+◌, ◌-◌, ◌^◌, ◌||◌, ◌==◌, min, nat_lt, Bool, false, if◌then◌else◌, List, [], ◌∷◌, length, drop, Option, Some, None, Result, Ok, Err, IsErrOf, IsTrue, ◌↔◌, refl}
use Rattle.std.specs.Coded.{Coded, code_by, coded_ℕ, coded_list, coded_option, coded×}
use Rattle.std.specs.List.{list_any}
use Rattle.std.specs.FinMap.{insert}
use Rattle.lethe_base.specs.declared.name.Name.{Name}
use Rattle.lethe_disk.specs.Directory.{Directory}
use Rattle.lethe_disk.specs.Disk.{Seen, Takes, HasCause}
use Rattle.lethe_disk.specs.declared.disk.DiskRefused.{DiskRefused}
use Rattle.lethe_disk.specs.declared.disk.DiskRefused.TheVariants.{Failed, NoMemory}
use Rattle.lethe_memdisk.specs.Objects.{directory_code}
use Rattle.lethe_memdisk.specs.Codes.{effects_code}
use Rattle.lethe_memdisk.specs.Effects.{Effect, Nothing, after, Step, Images, crashed}

pub record Held : Type 0 where
  -- what it held, all of it synced, before the calls whose effects it keeps
  pub start : Directory
  -- how many calls it had taken by then
  pub earlier : ℕ
  -- of the calls since, the latest first
  pub effects : List Effect
  -- how many calls it has room for in all
  pub room : ℕ
  -- the numbers of the calls that fail, counted from 1
  pub failing : List ℕ
  -- the number of the last call that the fuse lets pass, where one burns
  pub fuse : Option ℕ
  pub faults : ℕ

-- how it is stored
abbrev pub held_code : Coded Held
held_code = code_by (Directory × (ℕ × (List Effect × (ℕ × (List ℕ × (Option ℕ × ℕ)))))) (coded× directory_code (coded× coded_ℕ (coded× effects_code (coded× coded_ℕ (coded× (coded_list coded_ℕ) (coded× (coded_option coded_ℕ) coded_ℕ)))))) (λ h. (h.start, (h.earlier, (h.effects, (h.room, (h.failing, (h.fuse, h.faults)))))))
    (λ p. record { start = p.0; earlier = (p.1).0; effects = ((p.1).1).0; room = (((p.1).1).1).0; failing = ((((p.1).1).1).1).0; fuse = (((((p.1).1).1).1).1).0; faults = (((((p.1).1).1).1).1).1 }) (λ _. refl)

-- the calls that it kept and has room to keep, by how many there are
pub record IsRoomy (earlier kept room kept_room : ℕ) : Type 0 where
  pub within : earlier + kept ≤ room
  pub roomy : room ≤ earlier + kept_room
  pub small : room < 2 ^ 64

-- how many calls it has taken
abbrev pub calls_of : Held → ℕ
calls_of held = held.earlier + length held.effects

-- the effects of its calls up to a moment
abbrev pub effects_at : Held → ℕ → List Effect
effects_at held moment = drop (calls_of held - moment) held.effects

abbrev pub seen_of : Held → Seen
seen_of held = record {
  directory = after held.start held.effects;
  moment = calls_of held;
  left = λ moment c. Images held.start (effects_at held moment) c;
}

-- whether the fuse has burnt before a call of this number
abbrev pub is_burnt : Option ℕ → ℕ → Bool
is_burnt None number = false
is_burnt (Some last) number = nat_lt last number

-- whether its next call fails: it is past the room or the fuse, or listed
abbrev pub fails : Held → Bool
fails held = let number = calls_of held + 1 in nat_lt held.room number || is_burnt held.fuse number || list_any (λ n. n == number) held.failing

-- after a call that was done
abbrev pub taken : Effect → Held → Held
taken effect held = record held { effects = effect ∷ held.effects }

-- after a call that failed, which it counts where there is room
abbrev pub failed : Held → Held
failed held = record held { effects = if nat_lt (calls_of held) held.room then Nothing ∷ held.effects else held.effects; faults = min (held.faults + 1) (2 ^ 64 - 1) }

-- after a call, by its result
abbrev pub answered : {T : Type 0} → Effect → Result T DiskRefused → Held → Held
answered effect (Ok value) held = taken effect held
answered effect (Err Failed) held = failed held
answered effect (Err NoMemory) held = held

-- with other bytes in an object, and all of it synced; the calls before it are forgotten, but counted
abbrev pub swapped : Name → List ℕ → Held → Held
swapped name bytes held = record held { start = insert (after held.start held.effects) name bytes; earlier = calls_of held; effects = [] }

-- one that has taken no call
abbrev pub fresh : Directory → ℕ → List ℕ → Held
fresh start room failing = record { start = start; earlier = 0; effects = []; room = room; failing = failing; fuse = None; faults = 0 }

-- what that crash at a moment leaves of it
abbrev pub left_by_crash : ℕ → ℕ → Bool → Held → Directory
left_by_crash moment fill keep held = crashed fill keep held.start (effects_at held moment)

-- A device call that does this where it is done. It fails exactly where it is to.
pub record Answers {T : Type 0} (effect : Effect) (result : Result T DiskRefused) (old new : Held) : Type 0 where
  pub answer : new ≡ answered effect result old
  pub failing : IsErrOf result Failed ↔ IsTrue (fails old)
  pub takes : Takes (Step effect) result (seen_of old) (seen_of new)
  pub cause : HasCause old.faults new.faults result
