-- The order of a layout's parts: the newer stands above.
use Rattle.std.specs.Prelude.{◌≡◌, ◌<◌, ◌≤◌, List, AllPairs, Contains}
use Rattle.lethe_base.specs.declared.entry.Entry.{Entry}
use Rattle.lethe_base.specs.Layout.{Layout, File, Record, Written, Buffer, place_of, buffer_of, frozen_records, runs_of}
use Rattle.lethe_base.specs.Held.{InFiles, IsFiled, InBuffer}

-- of one key, the first run's entries have greater places than the second's
abbrev pub IsOver : List File → List File → Type 0
IsOver run lower = (entry older : Entry) → InFiles run entry → InFiles lower older → entry.key ≡ older.key → older.seq < entry.seq

-- of each key that a record has, the buffer has an entry of no smaller place
abbrev pub IsNewestOf : Buffer → List Record → Type 0
IsNewestOf buffer records = (entry : Entry) → Contains records (Written entry)
    → (newest : Entry) × InBuffer buffer newest × (newest.key ≡ entry.key) × (entry.seq ≤ newest.seq)

pub record IsNewerAbove (l : Layout) : Type 0 where
  pub runs : AllPairs IsOver (runs_of l.levels)
  -- every place in a segment is above every place in a lower part
  pub active_frozen : (r older : Record) → Contains l.active r → Contains (frozen_records l) older → place_of older < place_of r
  pub active_files : (r : Record) (older : Entry) → Contains l.active r → IsFiled l older → older.seq < place_of r
  pub frozen_files : (r : Record) (older : Entry) → Contains (frozen_records l) r → IsFiled l older → older.seq < place_of r
  -- a buffer has of each key in its segment the record of greatest place
  pub active_buffer : IsNewestOf (buffer_of l.active) l.active
  pub frozen_buffer : IsNewestOf (buffer_of (frozen_records l)) (frozen_records l)
