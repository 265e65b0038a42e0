-- Which erasures a layout remembers.
use Rattle.std.specs.Prelude.{◌≡◌, ℕ, ◌<◌, ◌≤◌, List, length, Contains, Some}
use Rattle.lethe_base.specs.Ranges.{Ends}
use Rattle.lethe_base.specs.History.{History, clock_before}
use Rattle.lethe_base.specs.Causes.{done_at, cause_of}
use Rattle.lethe_base.specs.Matching.{IsPut}
use Rattle.lethe_base.specs.Layout.{Layout, File, entries_of, files_of}
use Rattle.lethe_base.specs.Held.{Holds}
use Rattle.lethe_base.specs.declared.call.Call.TheVariants.{Erase}
use Rattle.lethe_base.specs.declared.entry.Entry.{Entry}
use Rattle.lethe_base.specs.declared.pending.Pending.{Pending}

-- A newer entry of the key has a time at most that. It is one that reads see: a record that its buffer has replaced is lost
-- at the next flush, and its time with it.
pub record IsCovered (shows : Entry → Type 0) (entry : Entry) (time : ℕ) : Type 0 where
  pub above : Entry
  pub shown : shows above
  pub same : above.key ≡ entry.key
  pub newer : entry.seq < above.seq
  pub since : ℕ
  pub has : above.since ≡ Some since
  pub old : since ≤ time

-- no erase by a range was done at the place
abbrev pub IsNoErase : History → ℕ → Type 0
IsNoErase h place = (range : Ends) → done_at h place ≡ Some (Erase range) → ⊥

-- what was put and then deleted, so that its cause isn't an erase by a range, lies below an entry that remembers it
abbrev pub DeletesAreCovered : History → (Entry → ℕ → Type 0) → (Entry → Type 0) → Type 0
DeletesAreCovered h holds shows = (entry : Entry) (swept cause : ℕ) → holds entry swept → IsPut entry.body
    → cause_of h entry.seq ≡ Some cause → IsNoErase h cause → IsCovered shows entry (clock_before h cause)

-- the erase of that place is among them
abbrev pub HasErase : List Pending → ℕ → Type 0
HasErase erases place = (erase : Pending) × Contains erases erase × (erase.seq ≡ place)

-- what was put and then erased by a range is still to be swept
pub record ErasesAreCovered (h : History) (l : Layout) : Type 0 where
  pub pending : (entry : Entry) (swept cause : ℕ) (range : Ends) → Holds l entry swept → IsPut entry.body
      → cause_of h entry.seq ≡ Some cause → done_at h cause ≡ Some (Erase range) → HasErase l.pending cause × (swept < cause)
  pub swept : (file : File) → Contains (files_of l) file → file.swept ≤ length h
  -- a file that isn't swept of a pending erase has no place above it
  pub unswept : (file : File) (erase : Pending) (entry : Entry) → Contains (files_of l) file → Contains l.pending erase
      → file.swept < erase.seq → Contains (entries_of file) entry → entry.seq < erase.seq
