-- Which history a layout stands for.
use Rattle.std.specs.Prelude.{ℕ}
use Rattle.lethe_base.specs.History.{History, after}
use Rattle.lethe_base.specs.Layout.{Layout}
use Rattle.lethe_base.specs.Held.{Holds, Shows, Tells}
use Rattle.lethe_base.specs.Placed.{ArePlaced}
use Rattle.lethe_base.specs.NewerAbove.{IsNewerAbove}
use Rattle.lethe_base.specs.SameMap.{IsMap}
use Rattle.lethe_base.specs.Covered.{DeletesAreCovered, ErasesAreCovered}
use Rattle.lethe_base.specs.Fresh.{AreFresh}

-- What a layout says comes from the history, and together it gives the history's map. No erasure is forgotten: what was
-- deleted lies below a newer entry that has its time, and what was erased by a range waits for a pending erase.
pub record Covers (threshold : ℕ) (h : History) (l : Layout) : Type 0 where
  -- each put, tombstone and erase was done at its place
  pub places : ArePlaced h (Holds l) (Tells l)
  -- of one key, a higher part has the greater places
  pub newer_above : IsNewerAbove l
  -- the newest entry of each key, under the pending erases, is what the map has
  pub same_map : IsMap (Shows l) l.pending (after h).map
  -- a put whose cause is no erase lies below an entry with a time at most the cause's
  pub deletes_covered : DeletesAreCovered h (Holds l) (Shows l)
  -- a put whose cause is an erase isn't swept of it yet, and the erase is pending
  pub erases_covered : ErasesAreCovered h l
  -- each time is that of a done delete or erase, and nothing is due at the clock
  pub times_fresh : AreFresh threshold h l.clock (Holds l) (Tells l)
