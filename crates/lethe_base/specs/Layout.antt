-- A store as plain lists.
use Rattle.std.specs.Prelude.{ℕ, List, [], ◌∷◌, ◌++◌, fold, map, flat_map, filter_map, replicate, Option, Some, None, unwrap_or}
use Rattle.std.specs.FinMap as finmap
use Rattle.lethe_base.specs.Keys.{Bytes, key_cmp}
use Rattle.lethe_base.specs.declared.entry.Entry.{Entry}
use Rattle.lethe_base.specs.declared.pending.Pending.{Pending}

-- some of a file's entries, in pages, and bounds of their keys
pub record Tile : Type 0 where
  pub lo : Bytes
  pub hi : Bytes
  pub pages : List (List Entry)

-- `swept` is the place up to which erases have been applied to it
pub record File : Type 0 where
  pub no : ℕ
  pub swept : ℕ
  pub tiles : List Tile

-- what a segment says of a change: an entry, the place of a delete that had nothing to hide, or an erase
pub data Record : Type 0 where
  Written : Entry → Record
  Blind : ℕ → Record
  Erasing : Pending → Record

pub record Layout : Type 0 where
  pub clock : ℕ
  -- of the changes that were accepted
  pub count : ℕ
  -- the number of the next object
  pub next : ℕ
  -- the number of the last certificate, 0 where there is none
  pub certificate : ℕ
  -- the accepted erases that are still to be carried out
  pub pending : List Pending
  -- the records of the active segment, and of the frozen one if there is one, oldest first
  pub active : List Record
  pub frozen : Option (List Record)
  -- from level 0 down; in level 0 the newest file first, in the others the one of the lowest keys
  pub levels : List (List File)

-- Parts, from newest to oldest: the active buffer with its segment, the frozen one with its own, and the runs.

abbrev pub place_of : Record → ℕ
place_of (Written entry) = entry.seq
place_of (Blind place) = place
place_of (Erasing erase) = erase.seq

abbrev pub written : Record → Option Entry
written (Written entry) = Some entry
written (Blind place) = None
written (Erasing erase) = None

-- the entry of each key in a buffer
abbrev pub Buffer : Type 0
Buffer = finmap.FinMap key_cmp Entry

-- the buffer that a segment's records leave, which has the newest of each key
abbrev pub buffer_of : List Record → Buffer
buffer_of records = fold (λ buffer entry. finmap.insert buffer entry.key entry) finmap.empty (filter_map written records)

abbrev pub frozen_records : Layout → List Record
frozen_records l = unwrap_or l.frozen []

abbrev pub entries_of : File → List Entry
entries_of file = flat_map (λ tile. flat_map (λ page. page) tile.pages) file.tiles

-- each file of level 0 is a run of its own, and each deeper level is one
abbrev pub runs_of : List (List File) → List (List File)
runs_of [] = []
runs_of (newest ∷ deeper) = map (λ file. file ∷ []) newest ++ deeper

abbrev pub files_of : Layout → List File
files_of l = flat_map (λ files. files) l.levels

-- a new store's layout, with so many levels behind level 0; its first segment and manifest have the numbers 1 and 2
abbrev pub new_layout : ℕ → Layout
new_layout levels = record { clock = 0; count = 0; next = 3; certificate = 0; pending = []; active = []; frozen = None; levels = [] ∷ replicate levels [] }
