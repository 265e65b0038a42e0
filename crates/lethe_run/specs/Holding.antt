-- What the slots of a run's callers hold.
use Rattle.std.specs.Prelude.{◌≡◌, ◌≤◌, ℕ, zero, suc, Bool, false, List, length, map, replicate, take, slice_index_or, All, Option, None, IfSome, is_some, option_map}
use Rattle.lethe_base.specs.History.{History}
use Rattle.lethe_disk.specs.declared.disk.Disk.{Ghosts}
use Rattle.lethe_snapshot.specs.Points.{IsOf}
use Rattle.lethe_snapshot.specs.declared.snapshot.Snapshot.{Snapshot}
use Rattle.lethe_stored.specs.Left.{without_failed}
use Rattle.lethe_run.specs.Slots.{Pin, Slots, no_slots}
use Rattle.lethe_run.specs.declared.slots.Slots as declared

-- the pin of a snapshot
abbrev pub pin_of : {D Page Port : Type 0} {kind : Ghosts D Page Port} → Snapshot D Page Port kind → Pin
pin_of snapshot = record { number = snapshot.pin.number; point = snapshot.point; limit = snapshot.pin.limit }

-- the slots that hold these snapshots
abbrev pub slots_of : {D Page Port : Type 0} {kind : Ghosts D Page Port} → List (Option (Snapshot D Page Port kind)) → Slots
slots_of held = map (option_map pin_of) held

-- which of them are held, as a script sees it
abbrev pub held_in : {D Page Port : Type 0} {kind : Ghosts D Page Port} → List (Option (Snapshot D Page Port kind)) → List Bool
held_in held = map is_some held

-- what the slots of each caller of a run hold, the first caller's first
abbrev pub held_by : {D Page Port : Type 0} {kind : Ghosts D Page Port} → List (declared.Slots D Page Port kind) → List (List (Option (Snapshot D Page Port kind)))
held_by slots = map (λ own. own.held.items) slots

-- those of the caller whose number is one more
abbrev pub held_at : {D Page Port : Type 0} {kind : Ghosts D Page Port} → List (List (Option (Snapshot D Page Port kind))) → ℕ → List (Option (Snapshot D Page Port kind))
held_at held index = slice_index_or held index (replicate 10 None)

-- the slots of a caller; they are numbered from 1 on
abbrev pub slots_for : {D Page Port : Type 0} {kind : Ghosts D Page Port} → ℕ → List (List (Option (Snapshot D Page Port kind))) → Slots
slots_for zero held = no_slots
slots_for (suc index) held = slots_of (held_at held index)

-- and which of them are held
abbrev pub held_for : {D Page Port : Type 0} {kind : Ghosts D Page Port} → ℕ → List (List (Option (Snapshot D Page Port kind))) → List Bool
held_for zero held = replicate 10 false
held_for (suc index) held = held_in (held_at held index)

-- there are eight callers, and each has ten slots
pub record AreTen {D Page Port : Type 0} {kind : Ghosts D Page Port} (held : List (List (Option (Snapshot D Page Port kind)))) : Type 0 where
  pub eight : length held ≡ 8
  pub ten : All (λ own. length own ≡ 10) held

-- a snapshot shows the history up to its point
pub record IsShown {D Page Port : Type 0} {kind : Ghosts D Page Port} (h : History) (snapshot : Snapshot D Page Port kind) : Type 0 where
  pub within : snapshot.point ≤ length h
  pub shows : IsOf (without_failed (take snapshot.point h)) snapshot

-- each that is held does
abbrev pub AreShown : {D Page Port : Type 0} {kind : Ghosts D Page Port} → History → List (Option (Snapshot D Page Port kind)) → Type 0
AreShown h held = All (λ snapshot. IfSome snapshot (IsShown h)) held
