-- Files whose tiles bound their keys.
use Rattle.std.specs.Prelude.{◌≡◌, ◌≢◌, false, IsTrue, List, [], map, flat_map, All, AllPairs, Contains}
use Rattle.std.specs.Ordering.{is_le}
use Rattle.std.specs.declared.cmp.Ordering.TheVariants.{Less}
use Rattle.lethe_base.specs.Keys.{Bytes, key_cmp}
use Rattle.lethe_base.specs.Layout.{Tile, File}
use Rattle.lethe_base.specs.Shapes.{lower_key, upper_key, facts_of}
use Rattle.lethe_base.specs.declared.entry.Entry.{Entry}
use Rattle.lethe_fade.specs.Spans.{KeyRange, overlaps, hull_of}

-- a key from `lo` to `hi`, both included
abbrev pub IsWithin : Bytes → Bytes → Bytes → Type 0
IsWithin lo hi key = IsTrue (is_le (key_cmp lo key)) × IsTrue (is_le (key_cmp key hi))

abbrev pub entries_in : Tile → List Entry
entries_in tile = flat_map (λ page. page) tile.pages

-- its two keys bound those of its entries, of which no two have one key
pub record IsBounded (tile : Tile) : Type 0 where
  pub range : IsTrue (is_le (key_cmp tile.lo tile.hi))
  pub within : All (λ entry. IsWithin tile.lo tile.hi entry.key) (entries_in tile)
  pub once : AllPairs (λ entry other. entry.key ≢ other.key) (entries_in tile)

-- every key of the first tile is below every key of the second
abbrev pub IsLower : Tile → Tile → Type 0
IsLower tile other = key_cmp tile.hi other.lo ≡ Less

-- there is a tile, and the tiles ascend
pub record IsTiled (file : File) : Type 0 where
  pub some : file.tiles ≢ []
  pub bounded : All IsBounded file.tiles
  pub ascending : AllPairs IsLower file.tiles

-- the tile's two keys are those of two of its entries
pub record IsTight (tile : Tile) : Type 0 where
  pub lo : (entry : Entry) × Contains (entries_in tile) entry × (entry.key ≡ tile.lo)
  pub hi : (entry : Entry) × Contains (entries_in tile) entry × (entry.key ≡ tile.hi)

-- the keys that a file may have
abbrev pub keys_of : File → KeyRange
keys_of file = record { lo = lower_key file.tiles; hi = upper_key file.tiles }

-- the least range with all keys that the files may have, of which there has to be one
abbrev pub hull_of_files : List File → KeyRange
hull_of_files files = hull_of (map (facts_of 0) files)

-- the file has no key of the range
abbrev pub IsClearOf : KeyRange → File → Type 0
IsClearOf keys file = overlaps keys (keys_of file) ≡ false
