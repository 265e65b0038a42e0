-- Reading a header: the header, or the first fault from the left. A field is tested as soon as it is read whole.
use Rattle.std.specs.Prelude.{◌≡◌, ℕ, zero, suc, ◌+◌, ◌*◌, ◌-◌, ◌^◌, ◌==◌, nat_le, nat_lt, List, [], ◌∷◌, ◌++◌, length, take, drop, Option, Some, None, Result, Ok, Err, ok_or, if◌then◌else◌}
use Rattle.std.specs.Int.{Width, w8, w16, w32, w64, div_ceil, is_in_range}
use Rattle.std.specs.Ordering.{is_le}
use Rattle.lethe_base.specs.Keys.{Bytes, key_cmp}
use Rattle.lethe_base.specs.Limits.{max_place}
use Rattle.lethe_base.specs.Numbers.{number_at}
use Rattle.lethe_base.specs.Reading.{since_at, key_at}
use Rattle.lethe_base.specs.Results.{◌>>=◌}
use Rattle.lethe_base.specs.declared.front.BodyKind.TheVariants as kinds
use Rattle.lethe_base.specs.declared.reading.EntryRefused.{EntryRefused}
use Rattle.lethe_base.specs.declared.reading.EntryRefused.TheVariants as entry
use Rattle.lethe_page.specs.Reading.{is_above}
use Rattle.lethe_page.specs.declared.class.Class.{Class}
use Rattle.lethe_page.specs.declared.class.Class.TheVariants.{Puts, Tombs}
use Rattle.lethe_header.specs.Headers.{before_of, max_tile_entries, max_puts, last_hi}
use Rattle.lethe_header.specs.declared.before.Before.{Before}
use Rattle.lethe_header.specs.declared.header.Header.{Header}
use Rattle.lethe_header.specs.declared.header.PageLine.{PageLine}
use Rattle.lethe_header.specs.declared.header.TileLine.{TileLine}
use Rattle.lethe_header.specs.declared.line.Counts.{Counts}
use Rattle.lethe_header.specs.declared.refused.HeaderRefused.{HeaderRefused}
use Rattle.lethe_header.specs.declared.refused.HeaderRefused.TheVariants.{Short, Kind, Order, Trailing, NoMemory}

-- it was refused as reading refuses it, unless memory ran out
abbrev pub IsRefused : {A : Type 0} → HeaderRefused → Result A HeaderRefused → Type 0
IsRefused (Short at) read = read ≡ Err (Short at)
IsRefused (Kind at) read = read ≡ Err (Kind at)
IsRefused (Order at) read = read ≡ Err (Order at)
IsRefused (Trailing at) read = read ≡ Err (Trailing at)
IsRefused NoMemory read = Unit {0}

-- a function returned what reading gives, unless memory ran out
abbrev pub Gives : {A : Type 0} → Result A HeaderRefused → Result A HeaderRefused → Type 0
Gives (Ok x) read = read ≡ Ok x
Gives (Err why) read = IsRefused why read

-- why a header can't be read, where a field can't that entries have too
abbrev pub refusal_of : EntryRefused → HeaderRefused
refusal_of (entry.Short at) = Short at
refusal_of (entry.Kind at) = Kind at
refusal_of entry.NoMemory = NoMemory

-- what reading such a field gives, as a part of a header
abbrev pub part : {A : Type 0} → Result A EntryRefused → Result A HeaderRefused
part (Ok x) = Ok x
part (Err why) = Err (refusal_of why)

-- Numbers.

abbrev pub field_at : Width → List ℕ → ℕ → Result ℕ HeaderRefused
field_at w bytes at = ok_or (number_at w bytes at) (Short at)

-- a number in its range
unfoldable pub number_within : Width → ℕ → ℕ → List ℕ → ℕ → Result ℕ HeaderRefused
number_within w least greatest bytes at = do
  n ← field_at w bytes at
  if is_in_range least greatest n then Ok n else Err (Kind at)

-- a number that must not be below another one
unfoldable pub number_from : ℕ → List ℕ → ℕ → Result ℕ HeaderRefused
number_from least bytes at = do
  n ← field_at w64 bytes at
  if nat_le least n then Ok n else Err (Order at)

-- Lists.

-- so many more items behind these, each read with those before it in mind
abbrev pub all_at : {A : Type 0} → (List A → List ℕ → ℕ → Result (A × ℕ) HeaderRefused) → ℕ → List A → List ℕ → ℕ → Result (List A × ℕ) HeaderRefused
all_at read zero items bytes at = Ok (items, at)
all_at read (suc n) items bytes at = do
  item ← read items bytes at
  all_at read n (items ++ item.0 ∷ []) bytes item.1

-- Lines.

-- the class, where the lines before leave room for it
unfoldable pub class_at : Before → List ℕ → ℕ → Result Class HeaderRefused
class_at before bytes at = do
  byte ← number_within w8 1 2 bytes at
  if byte == 1 then (if nat_lt before.puts max_puts then Ok Puts else Err (Order at))
      else (if before.lines == 0 then Ok Tombs else Err (Order at))

-- how many entries, where the tile has not too many with them
unfoldable pub entries_at : Before → List ℕ → ℕ → Result ℕ HeaderRefused
entries_at before bytes at = do
  entries ← number_within w32 1 (2 ^ 32 - 1) bytes at
  if nat_le (before.entries + entries) max_tile_entries then Ok entries else Err (Order at)

unfoldable pub counts_at : Before → List ℕ → ℕ → Result Counts HeaderRefused
counts_at before bytes at = do
  number ← number_within w64 0 max_place bytes at
  class ← class_at before bytes (at + 8)
  entries ← entries_at before bytes (at + 9)
  max_seq ← number_within w64 1 max_place bytes (at + 13)
  Ok (record { no = number; class = class; entries = entries; max_seq = max_seq })

-- the fence of a page of puts, behind the delete key of the pages before
unfoldable pub fence_at : Class → ℕ → List ℕ → ℕ → Result (Option (ℕ × ℕ) × ℕ) HeaderRefused
fence_at Puts dkey bytes at = do
  lo ← number_from dkey bytes at
  hi ← number_from lo bytes (at + 8)
  Ok (Some (lo, hi), at + 16)
fence_at Tombs dkey bytes at = Ok (None, at)

-- a word, whatever stands before it
abbrev pub word_at : List ℕ → List ℕ → ℕ → Result (ℕ × ℕ) HeaderRefused
word_at before bytes at = do
  word ← field_at w64 bytes at
  Ok (word, at + 8)

-- the filter of so many keys
unfoldable pub filter_at : ℕ → List ℕ → ℕ → Result (List ℕ × ℕ) HeaderRefused
filter_at entries bytes at = do
  len ← number_within w32 (div_ceil (10 * entries) 64) (div_ceil (10 * entries) 64) bytes at
  all_at word_at len [] bytes (at + 4)

unfoldable pub digest_at : List ℕ → ℕ → Result (List ℕ × ℕ) HeaderRefused
digest_at bytes at = if nat_le (at + 32) (length bytes) then Ok (take 32 (drop at bytes), at + 32) else Err (Short at)

-- a line behind others of its tile
unfoldable pub line_at : Before → List ℕ → ℕ → Result (PageLine × ℕ) HeaderRefused
line_at before bytes at = do
  counts ← counts_at before bytes at
  oldest ← part (since_at kinds.Put bytes (at + 21))
  fence ← fence_at counts.class before.dkey bytes oldest.1
  filter ← filter_at counts.entries bytes fence.1
  digest ← digest_at bytes filter.1
  Ok (record { no = counts.no; class = counts.class; entries = counts.entries; max_seq = counts.max_seq; oldest = oldest.0; fence = fence.0; filter = filter.0; digest = digest.0 }, digest.1)

-- a line behind these of its tile
abbrev pub line_behind : List PageLine → List ℕ → ℕ → Result (PageLine × ℕ) HeaderRefused
line_behind lines = line_at (before_of lines)

-- Tiles.

-- a tile's least key, above the last one of the tile before
unfoldable pub lo_at : Option Bytes → List ℕ → ℕ → Result (Bytes × ℕ) HeaderRefused
lo_at last bytes at = do
  key ← part (key_at bytes at)
  if is_above last key.0 then Ok key else Err (Order at)

-- a tile's greatest key
unfoldable pub hi_at : Bytes → List ℕ → ℕ → Result (Bytes × ℕ) HeaderRefused
hi_at lo bytes at = do
  key ← part (key_at bytes at)
  if is_le (key_cmp lo key.0) then Ok key else Err (Order at)

-- a tile behind others of its file
unfoldable pub tile_at : Option Bytes → List ℕ → ℕ → Result (TileLine × ℕ) HeaderRefused
tile_at last bytes at = do
  lo ← lo_at last bytes at
  hi ← hi_at lo.0 bytes lo.1
  count ← number_within w8 1 65 bytes hi.1
  lines ← all_at line_behind count [] bytes (hi.1 + 1)
  Ok (record { lo = lo.0; hi = hi.0; pages = lines.0 }, lines.1)

-- a tile behind these of its file
abbrev pub tile_behind : List TileLine → List ℕ → ℕ → Result (TileLine × ℕ) HeaderRefused
tile_behind tiles = tile_at (last_hi tiles)

-- Headers.

-- the file's number and how many tiles it has, behind the letters and the format
unfoldable pub head_at : List ℕ → Result (ℕ × ℕ) HeaderRefused
head_at bytes = do
  letters ← number_within w16 0x4c46 0x4c46 bytes 0
  format ← number_within w8 1 1 bytes 2
  number ← number_within w64 0 max_place bytes 3
  tiles ← number_within w16 1 256 bytes 11
  Ok (number, tiles)

unfoldable pub header_at : List ℕ → Result Header HeaderRefused
header_at bytes = do
  head ← head_at bytes
  tiles ← all_at tile_behind head.1 [] bytes 13
  if nat_lt tiles.1 (length bytes) then Err (Trailing tiles.1) else Ok (record { no = head.0; tiles = tiles.0 })
