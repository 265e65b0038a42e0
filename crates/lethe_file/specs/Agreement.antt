-- A page that agrees with its line, and the pages of a file that agree with its header.
use Rattle.std.specs.Prelude.{◌≡◌, ◌≢◌, ◌↔◌, ℕ, ◌*◌, ◌<◌, ◌^◌, min, max, IsTrue, List, [], ◌∷◌, length, map, fold, take, drop, All, AllPairs, Option, Some, None, Result, Ok, Err}
use Rattle.std.specs.List.{AllZip}
use Rattle.std.specs.Ordering.{is_le}
use Rattle.sha2.specs.Sha256.{sha256}
use Rattle.lethe_base.specs.Keys.{Bytes, key_cmp}
use Rattle.lethe_base.specs.Shapes.{oldest_of}
use Rattle.lethe_base.specs.declared.entry.Body.{Body}
use Rattle.lethe_base.specs.declared.entry.Body.TheVariants.{Put, Tomb}
use Rattle.lethe_base.specs.declared.entry.Entry.{Entry}
use Rattle.lethe_page.specs.Pages.{page_bytes}
use Rattle.lethe_page.specs.Pages as pages
use Rattle.lethe_page.specs.Reading.{page_at}
use Rattle.lethe_page.specs.declared.class.Class.{Class}
use Rattle.lethe_page.specs.declared.refused.PageRefused.{PageRefused}
use Rattle.lethe_header.specs.Filters.{filter_len, filter_bits, IsSet}
use Rattle.lethe_base.specs.declared.name.Kind.TheVariants.{Page}
use Rattle.lethe_base.specs.declared.name.Name.{Name}
use Rattle.lethe_header.specs.Facts.{lines_of}
use Rattle.lethe_header.specs.declared.header.PageLine.{PageLine}
use Rattle.lethe_header.specs.declared.header.TileLine.{TileLine}
use Rattle.lethe_file.specs.declared.page.PageCheck.{PageCheck}

abbrev pub entries_read : Result (Class × List Entry) PageRefused → List Entry
entries_read (Ok page) = page.1
entries_read (Err why) = []

-- the entries that the bytes of a page spell, and none where they spell none
abbrev pub entries_in : List ℕ → List Entry
entries_in bytes = entries_read (page_at bytes)

-- what a line tells of its page that a fetch compares
abbrev pub check_of : PageLine → PageCheck
check_of line = record { no = line.no; class = line.class; entries = line.entries; digest = line.digest }

-- the page whose entries these are, and which is spelled by bytes of that digest
pub record IsChecked (check : PageCheck) (entries : List Entry) : Type 0 where
  pub spelled : pages.HasSpelling check.class entries
  pub len : length entries ≡ check.entries
  pub digest : sha256 (page_bytes check.class entries) ≡ check.digest

-- the page that the line tells of has these entries
abbrev pub IsPage : PageLine → List Entry → Type 0
IsPage line entries = IsChecked (check_of line) entries

-- a fence with one delete key more
abbrev pub fence_with : Option (ℕ × ℕ) → Body → Option (ℕ × ℕ)
fence_with None (Put dkey value) = Some (dkey, dkey)
fence_with (Some fence) (Put dkey value) = Some (min fence.0 dkey, max fence.1 dkey)
fence_with fence Tomb = fence

-- the least and the greatest delete key, where there are puts
abbrev pub fence_of : List Entry → Option (ℕ × ℕ)
fence_of entries = fold (λ fence entry. fence_with fence entry.body) None entries

abbrev pub keys_of : List Entry → List Bytes
keys_of entries = map (λ entry. entry.key) entries

-- the words of the filter of these keys
pub record IsFilterOf (keys : List Bytes) (words : List ℕ) : Type 0 where
  pub len : 64 * length words ≡ filter_len (length keys)
  pub each : All (λ word. word < 2 ^ 64) words
  pub bits : (bit : ℕ) → IsSet words bit ↔ filter_bits keys bit

-- a page of these bytes agrees with its line
pub record Agrees (line : PageLine) (bytes : List ℕ) : Type 0 where
  pub page : IsPage line (entries_in bytes)
  pub spelled : bytes ≡ page_bytes line.class (entries_in bytes)
  pub max_seq : fold (λ most entry. max most entry.seq) 0 (entries_in bytes) ≡ line.max_seq
  pub oldest : oldest_of (entries_in bytes) ≡ line.oldest
  pub fence : fence_of (entries_in bytes) ≡ line.fence
  pub filter : IsFilterOf (keys_of (entries_in bytes)) line.filter

-- the key lies between a tile's two keys, both included
pub record IsWithin (tile : TileLine) (key : Bytes) : Type 0 where
  pub lo : IsTrue (is_le (key_cmp tile.lo key))
  pub hi : IsTrue (is_le (key_cmp key tile.hi))

abbrev pub HaveNoCommonKey : List Entry → List Entry → Type 0
HaveNoCommonKey page other = All (λ entry. All (λ again. entry.key ≢ again.key) other) page

-- the pages of a tile have keys of its own stretch alone, and no two of them share one
pub record TileHolds (tile : TileLine) (pages : List (List Entry)) : Type 0 where
  pub within : All (All (λ entry. IsWithin tile entry.key)) pages
  pub once : AllPairs HaveNoCommonKey pages

-- so do the tiles of a file, whose pages stand in the order of their lines
abbrev pub TilesHold : List TileLine → List (List Entry) → Type 0
TilesHold [] pages = pages ≡ []
TilesHold (tile ∷ tiles) pages = TileHolds tile (take (length tile.pages) pages) × TilesHold tiles (drop (length tile.pages) pages)

-- a file whose pages have these bytes, in the order of their lines, agrees with its header
pub record FileAgrees (lines : List TileLine) (bytes : List (List ℕ)) : Type 0 where
  pub pages : AllZip Agrees (lines_of lines) bytes
  pub tiles : TilesHold lines (map entries_in bytes)

abbrev pub page_name : ℕ → Name
page_name number = record { kind = Page; no = number }
