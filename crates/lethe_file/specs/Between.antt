-- The entries of a file between two keys, the first included and the second not.
use Rattle.std.specs.Prelude.{ℕ, ◌&&◌, ◌↔◌, Bool, true, IsTrue, List, map, filter, Any, Contains, Option, Some, None}
use Rattle.std.specs.Ordering.{is_le, is_lt}
use Rattle.lethe_base.specs.Entries.{IsAscending}
use Rattle.lethe_base.specs.Keys.{Bytes, key_cmp}
use Rattle.lethe_base.specs.declared.entry.Entry.{Entry}
use Rattle.lethe_header.specs.Facts.{lines_of}
use Rattle.lethe_header.specs.declared.header.TileLine.{TileLine}

-- below the upper end, where there is one
abbrev pub is_below : Bytes → Option Bytes → Bool
is_below key None = true
is_below key (Some hi) = is_lt (key_cmp key hi)

-- at least the lower end, and below the upper one
abbrev pub is_in : Bytes → Option Bytes → Bytes → Bool
is_in lo hi key = is_le (key_cmp lo key) && is_below key hi

-- the entries of these pages whose keys are in the range, ascending, each once
pub record AreBetween (lo : Bytes) (hi : Option Bytes) (pages : List (List Entry)) (entries : List Entry) : Type 0 where
  pub ascending : IsAscending entries
  pub each : (entry : Entry) → Contains entries entry ↔ (Any (λ page. Contains page entry) pages × IsTrue (is_in lo hi entry.key))

-- a key between the tile's two keys may be in the range
abbrev pub meets : Bytes → Option Bytes → TileLine → Bool
meets lo hi tile = is_le (key_cmp lo tile.hi) && is_below tile.lo hi

-- the numbers of the pages of the tiles that meet the range
abbrev pub numbers_between : Bytes → Option Bytes → List TileLine → List ℕ
numbers_between lo hi tiles = map (λ line. line.no) (lines_of (filter (meets lo hi) tiles))
