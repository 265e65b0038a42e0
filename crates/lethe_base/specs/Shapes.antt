-- The shape of a layout, and which shapes a store may have.
use Rattle.std.specs.Prelude.{◌≡◌, ◌≢◌, ℕ, ◌+◌, ◌-◌, ◌<◌, ◌≤◌, min, max, Bool, true, false, IsTrue, List, [], ◌∷◌, map, fold, flat_map, length, drop, count_by, All, AllPairs, slice_index_or, Option, Some, None}
use Rattle.std.specs.declared.cmp.Ordering.TheVariants.{Less}
use Rattle.std.specs.Ordering.{is_le}
use Rattle.lethe_base.specs.Keys.{Bytes, key_cmp}
use Rattle.lethe_base.specs.declared.entry.Body.{Body}
use Rattle.lethe_base.specs.declared.entry.Body.TheVariants.{Put, Tomb}
use Rattle.lethe_base.specs.declared.entry.Entry.{Entry}
use Rattle.lethe_base.specs.declared.shape.FileFacts.{FileFacts}
use Rattle.lethe_base.specs.declared.shape.Shape.{Shape}
use Rattle.lethe_base.specs.Layout.{Tile, File, Layout, entries_of}

-- the smaller of two times, where there are any
abbrev pub earlier : Option ℕ → Option ℕ → Option ℕ
earlier None other = other
earlier (Some time) None = Some time
earlier (Some time) (Some other) = Some (min time other)

-- the least time that an entry has
abbrev pub oldest_of : List Entry → Option ℕ
oldest_of [] = None
oldest_of (entry ∷ entries) = earlier entry.since (oldest_of entries)

abbrev pub is_tomb : Body → Bool
is_tomb (Put dkey value) = false
is_tomb Tomb = true

-- the first tile's lower key
abbrev pub lower_key : List Tile → Bytes
lower_key [] = []
lower_key (tile ∷ tiles) = tile.lo

-- the last tile's upper key
abbrev pub upper_key : List Tile → Bytes
upper_key tiles = fold (λ before tile. tile.hi) [] tiles

abbrev pub facts_of : ℕ → File → FileFacts
facts_of level file = record {
  no = file.no;
  level = level;
  lo = lower_key file.tiles;
  hi = upper_key file.tiles;
  oldest = oldest_of (entries_of file);
  tombs = count_by (λ entry. is_tomb entry.body) (entries_of file);
  entries = length (entries_of file);
  max_seq = fold (λ most entry. max most entry.seq) 0 (entries_of file);
  swept = file.swept;
}

-- the facts of the files of some levels, the first of which has that number
abbrev pub facts_from : ℕ → List (List File) → List (List FileFacts)
facts_from level [] = []
facts_from level (files ∷ deeper) = map (facts_of level) files ∷ facts_from (level + 1) deeper

abbrev pub shape_of : Layout → Shape
shape_of l = record { levels = facts_from 0 l.levels; erases = l.pending }

abbrev pub HasOtherNumber : FileFacts → FileFacts → Type 0
HasOtherNumber file other = file.no ≢ other.no

abbrev pub HasRange : FileFacts → Type 0
HasRange file = IsTrue (is_le (key_cmp file.lo file.hi))

-- no tombstone, and no erasure to remember
abbrev pub IsBare : FileFacts → Type 0
IsBare file = (file.tombs ≡ 0) × (file.oldest ≡ None)

-- every key of the first file is below every key of the second
abbrev pub IsBelow : FileFacts → FileFacts → Type 0
IsBelow file other = key_cmp file.hi other.lo ≡ Less

abbrev pub all_files : Shape → List FileFacts
all_files s = flat_map (λ files. files) s.levels

-- the files of the last level
abbrev pub deepest_files : Shape → List FileFacts
deepest_files s = slice_index_or s.levels (length s.levels - 1) []

pub record IsValidShape (s : Shape) : Type 0 where
  pub numbers : AllPairs HasOtherNumber (all_files s)
  pub ranges : All HasRange (all_files s)
  -- behind level 0 the files of a level ascend and share no key
  pub levels : All (AllPairs IsBelow) (drop 1 s.levels)
  -- nothing lies below the last level that its files could hide
  pub deepest : All IsBare (deepest_files s)
  pub places : AllPairs (λ erase later. erase.seq < later.seq) s.erases
  pub times : AllPairs (λ erase later. erase.time ≤ later.time) s.erases
