-- A change with a record, which ends older puts.
use Rattle.std.specs.Prelude.{◌≡◌, ◌⊎◌, ℕ, ◌≤◌, IsTrue, List, Contains, Some, ⊤}
use Rattle.lethe_base.specs.Keys.{Bytes}
use Rattle.lethe_base.specs.History.{History, after}
use Rattle.lethe_base.specs.Causes.{erases}
use Rattle.lethe_base.specs.Layout.{Layout, Record, Written, Blind, Erasing, place_of, buffer_of}
use Rattle.lethe_base.specs.Held.{InBuffer, Holds, Shows}
use Rattle.lethe_base.specs.Placed.{IsPlaced, IsAccepted}
use Rattle.lethe_base.specs.SameMap.{IsMap}
use Rattle.lethe_base.specs.Covered.{IsCovered, HasErase}
use Rattle.lethe_base.specs.Fresh.{IsFresh}
use Rattle.lethe_base.specs.declared.call.Call.{Call}
use Rattle.lethe_base.specs.declared.call.Call.TheVariants.{Put, Delete, Erase, Tick, Work}
use Rattle.lethe_base.specs.declared.entry.Body.TheVariants as body
use Rattle.lethe_base.specs.declared.entry.Entry.{Entry}
use Rattle.lethe_base.specs.declared.pending.Pending.{Pending}
use Rattle.lethe_cover.specs.Steps.{next_place, with_done, recorded}

-- what the record says was done in the history
abbrev pub IsSaid : History → Record → Type 0
IsSaid h (Written entry) = IsPlaced h entry.seq entry.key entry.body
IsSaid h (Blind place) = ⊤
IsSaid h (Erasing erase) = IsAccepted h erase

-- the record has the time
abbrev pub HasTime : Record → ℕ → Type 0
HasTime (Written entry) time = entry.since ≡ Some time
HasTime (Blind place) time = ⊥
HasTime (Erasing erase) time = erase.time ≡ time

-- the layout remembers that the call at that place and time ended the entry: by a pending erase where the call is one, and
-- else by a newer entry
abbrev pub IsRemembered : Layout → ℕ → ℕ → Entry → Call → Type 0
IsRemembered l place time entry (Put key dkey value) = IsCovered (Shows l) entry time
IsRemembered l place time entry (Delete key) = IsCovered (Shows l) entry time
IsRemembered l place time entry (Erase range) = HasErase l.pending place
IsRemembered l place time entry (Tick to) = IsCovered (Shows l) entry time
IsRemembered l place time entry Work = IsCovered (Shows l) entry time

-- the layout with a change's record, and with the pending erases that it leaves
abbrev pub followed : Layout → Record → List Pending → Layout
followed l r pending = record (recorded l r) { pending = pending }

-- what has to hold of a change, so that the layout with its record follows the history with it
pub record IsChange (threshold : ℕ) (h : History) (caller : ℕ) (call : Call) (l : Layout) (r : Record) (pending : List Pending) : Type 0 where
  pub next : place_of r ≡ next_place h
  pub said : IsSaid (with_done h caller call) r
  pub fresh : (time : ℕ) → HasTime r time → IsFresh threshold (with_done h caller call) l.clock time
  -- an entry has a time no greater than that of the one that it replaces
  pub older : (entry old : Entry) (since : ℕ) → r ≡ Written entry → InBuffer (buffer_of l.active) old → old.key ≡ entry.key → old.since ≡ Some since
      → (time : ℕ) × (entry.since ≡ Some time) × (time ≤ since)
  -- the pending erases stay, and the record's may come
  pub stays : (erase : Pending) → Contains l.pending erase → Contains pending erase
  pub comes : (erase : Pending) → Contains pending erase → Contains l.pending erase ⊎ (r ≡ Erasing erase)
  -- what the call ends is remembered
  pub ends : (entry : Entry) (swept dkey : ℕ) (value : Bytes) → Holds l entry swept → entry.body ≡ body.Put dkey value → IsTrue (erases entry.key dkey call)
      → IsRemembered (followed l r pending) (next_place h) (after h).clock entry call
  pub map : IsMap (Shows (followed l r pending)) pending (after (with_done h caller call)).map
