-- Every run of a store: which layouts come to follow which histories, step by step.
use Rattle.std.specs.Prelude.{◌≡◌, ℕ, ◌≤◌, Bool, false, List, [], filter, Contains, None}
use Rattle.lethe_base.specs.Keys.{Bytes}
use Rattle.lethe_base.specs.Ranges.{Ends}
use Rattle.lethe_base.specs.History.{History, after}
use Rattle.lethe_base.specs.Layout as layout
use Rattle.lethe_base.specs.Layout.{Layout, File, new_layout}
use Rattle.lethe_base.specs.Held.{Shows}
use Rattle.lethe_base.specs.Spent.{IsSpent}
use Rattle.lethe_base.specs.Covers.{Covers}
use Rattle.lethe_base.specs.declared.call.Call.TheVariants as call
use Rattle.lethe_base.specs.declared.config.Fields.{Fields}
use Rattle.lethe_base.specs.declared.entry.Entry.{Entry}
use Rattle.lethe_base.specs.declared.pending.Pending.{Pending}
use Rattle.lethe_cover.specs.Steps.{IsCounted, next_place, with_done, recorded, put_entry, tomb_entry, accepted, erasing, frozen, ticked}
use Rattle.lethe_cover.specs.Flushes.{flushed}
use Rattle.lethe_moves.specs.Due.{HasNothingDue}
use Rattle.lethe_moves.specs.Flushes.{Flushes}
use Rattle.lethe_moves.specs.Merges as merges
use Rattle.lethe_moves.specs.Merges.{Merges}
use Rattle.lethe_moves.specs.Ordered.{IsOrdered}
use Rattle.lethe_moves.specs.Sweeps as sweeps
use Rattle.lethe_moves.specs.Sweeps.{SweepsFile}

-- the layout stands for the history, has its count and its clock, and keeps the order of its files
pub record Follows (threshold : ℕ) (h : History) (l : Layout) : Type 0 where
  pub covers : Covers threshold h l
  pub counted : IsCounted h l
  pub clock : l.clock ≡ (after h).clock
  pub ordered : IsOrdered l

-- a layout that a new store of a configuration reaches, and the history of the changes on the way
pub data Reaches (fields : Fields) : History → Layout → Type 0 where
  New : Reaches fields [] (new_layout fields.levels)
  Put : (h : History) (l : Layout) (caller : ℕ) (key : Bytes) (dkey : ℕ) (value : Bytes) → Reaches fields h l
      → Reaches fields (with_done h caller (call.Put key dkey value)) (recorded l (layout.Written (put_entry h l key dkey value)))
  Delete : (h : History) (l : Layout) (caller : ℕ) (key : Bytes) → Reaches fields h l
      → Reaches fields (with_done h caller (call.Delete key)) (recorded l (layout.Written (tomb_entry h l key)))
  Blind : (h : History) (l : Layout) (caller : ℕ) (key : Bytes) → ((entry : Entry) → Shows l entry → entry.key ≡ key → ⊥) → Reaches fields h l
      → Reaches fields (with_done h caller (call.Delete key)) (recorded l (layout.Blind (next_place h)))
  Erase : (h : History) (l : Layout) (caller : ℕ) (range : Ends) → Reaches fields h l
      → Reaches fields (with_done h caller (call.Erase range)) (erasing l (accepted h l range))
  -- the clock moves to a time at which nothing is due
  Tick : (h : History) (l : Layout) (caller to : ℕ) → l.clock ≤ to → HasNothingDue fields to l → Reaches fields h l
      → Reaches fields (with_done h caller (call.Tick to)) (ticked h l to)
  Freeze : (h : History) (l : Layout) → l.frozen ≡ None → Reaches fields h l → Reaches fields h (frozen l)
  -- erases that are spent leave the pending ones
  Leave : (h : History) (l : Layout) (stays : Pending → Bool) → ((erase : Pending) → Contains l.pending erase → stays erase ≡ false → IsSpent l erase) → Reaches fields h l
      → Reaches fields h (record l { pending = filter stays l.pending })
  Flush : (h : History) (l : Layout) (made : List File) → Flushes h l made → Reaches fields h l → Reaches fields h (flushed l made)
  Merge : (h : History) (l : Layout) (applied : List Pending) (swept : ℕ) (m : merges.Merge) → Merges fields.threshold h l applied swept m → Reaches fields h l
      → Reaches fields h (record l { levels = merges.levels_then m })
  Sweep : (h : History) (l : Layout) (erase : Pending) (s : sweeps.Sweep) → SweepsFile h l erase s → Reaches fields h l
      → Reaches fields h (record l { levels = sweeps.levels_then s })
  -- objects and certificates get their numbers
  Number : (h : History) (l : Layout) (next certificate : ℕ) → Reaches fields h l → Reaches fields h (record l { next = next; certificate = certificate })
