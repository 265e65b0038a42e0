-- What is stored, as its readers have it.
use Rattle.std.specs.Prelude.{List, map, flat_map, Any, Contains}
use Rattle.lethe_base.specs.Entries.{IsAscending}
use Rattle.lethe_base.specs.declared.entry.Entry.{Entry}
use Rattle.lethe_version.specs.Agreement.{entries_in}
use Rattle.lethe_stored.specs.Files.{Parts}
use Rattle.lethe_stored.specs.Levels.{HasFiles}
use Rattle.lethe_stored.specs.Replayed.{AreNewestOf}
use Rattle.lethe_stored.specs.Stored.{Stored, records_in}

-- the entries of each of the file's pages
abbrev pub pages_of : Parts → List (List Entry)
pages_of parts = map entries_in parts.pages

-- the pages of each file, level after level
abbrev pub pages_in : List (List Parts) → List (List (List Entry))
pages_in levels = map pages_of (flat_map (λ files. files) levels)

-- a page of one of the files has the entry
abbrev pub IsPaged : List (List Parts) → Entry → Type 0
IsPaged levels entry = Any (λ file. Any (λ page. Contains page entry) file) (pages_in levels)

-- buffers have the newest entries of the segments, in the order of their keys, and the files stand by level
pub record IsHeldBy (s : Stored) (active frozen : List Entry) (levels : List (List Parts)) : Type 0 where
  pub active_ascends : IsAscending active
  pub frozen_ascends : IsAscending frozen
  pub active_newest : AreNewestOf s.active.records active
  pub frozen_newest : AreNewestOf (records_in s.frozen) frozen
  pub files : HasFiles s levels
