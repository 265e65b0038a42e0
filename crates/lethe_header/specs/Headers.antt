-- The one spelling of a file's header, and what its tiles and lines may be.
use Rattle.std.specs.Prelude.{◌≡◌, ℕ, ◌+◌, ◌*◌, ◌<◌, ◌≤◌, ◌^◌, Bool, true, false, IsTrue, List, [], ◌∷◌, ◌++◌, length, flat_map, fold, count_by, sum_by, All, Option, Some, None}
use Rattle.std.specs.Int.{w16, w32, w64, to_be_bytes, div_ceil}
use Rattle.std.specs.Ordering.{is_le}
use Rattle.lethe_base.specs.Keys.{Bytes, key_cmp}
use Rattle.lethe_base.specs.Limits.{IsKey, max_place}
use Rattle.lethe_base.specs.Spelling.{since_bytes, key_bytes, IsPlace, IsTimeOrNone}
use Rattle.lethe_page.specs.Pages.{class_byte}
use Rattle.lethe_page.specs.Reading.{is_above}
use Rattle.lethe_page.specs.declared.class.Class.{Class}
use Rattle.lethe_page.specs.declared.class.Class.TheVariants.{Puts, Tombs}
use Rattle.lethe_header.specs.declared.before.Before.{Before}
use Rattle.lethe_header.specs.declared.header.Header.{Header}
use Rattle.lethe_header.specs.declared.header.PageLine.{PageLine}
use Rattle.lethe_header.specs.declared.header.TileLine.{TileLine}

-- Spelling.

-- the page's number, its class, how many entries it has and the greatest place of one
unfoldable pub counts_bytes : PageLine → List ℕ
counts_bytes l = to_be_bytes w64 l.no ++ ((class_byte l.class ∷ []) ++ (to_be_bytes w32 l.entries ++ to_be_bytes w64 l.max_seq))

-- the least and the greatest delete key, which a page of puts has
abbrev pub fence_bytes : Option (ℕ × ℕ) → List ℕ
fence_bytes None = []
fence_bytes (Some fence) = to_be_bytes w64 fence.0 ++ to_be_bytes w64 fence.1

-- how many words, and the words
abbrev pub filter_bytes : List ℕ → List ℕ
filter_bytes words = to_be_bytes w32 (length words) ++ flat_map (to_be_bytes w64) words

unfoldable pub line_bytes : PageLine → List ℕ
line_bytes l = counts_bytes l ++ (since_bytes l.oldest ++ (fence_bytes l.fence ++ (filter_bytes l.filter ++ l.digest)))

-- its keys, how many pages it has, and their lines
unfoldable pub tile_bytes : TileLine → List ℕ
tile_bytes t = key_bytes t.lo ++ (key_bytes t.hi ++ ((length t.pages ∷ []) ++ flat_map line_bytes t.pages))

-- `LF`, the format, the file's number and how many tiles it has
unfoldable pub head_bytes : ℕ → ℕ → List ℕ
head_bytes number tiles = (76 ∷ 70 ∷ 1 ∷ []) ++ (to_be_bytes w64 number ++ to_be_bytes w16 tiles)

unfoldable pub header_bytes : Header → List ℕ
header_bytes h = head_bytes h.no (length h.tiles) ++ flat_map tile_bytes h.tiles

-- What has a spelling.

-- each of the items may stand behind those before it
abbrev pub EachFollows : {A : Type 0} → (List A → A → Type 0) → List A → Type 0
EachFollows {A = A} MayFollow items = (before after : List A) (item : A) → items ≡ before ++ item ∷ after → MayFollow before item

abbrev pub is_puts : Class → Bool
is_puts Puts = true
is_puts Tombs = false

-- the greatest number of entries of a tile
abbrev pub max_tile_entries : ℕ
max_tile_entries = 65536

-- the greatest number of a tile's pages of puts
abbrev pub max_puts : ℕ
max_puts = 64

abbrev pub puts_in : List PageLine → ℕ
puts_in lines = count_by (λ line. is_puts line.class) lines

abbrev pub entries_in : List PageLine → ℕ
entries_in lines = sum_by (λ line. line.entries) lines

-- the greatest delete key of a page, and of one that has none that of the pages before
abbrev pub dkey_then : ℕ → Option (ℕ × ℕ) → ℕ
dkey_then dkey None = dkey
dkey_then dkey (Some fence) = fence.1

-- the greatest delete key of the last page that has one, 0 where none has
abbrev pub last_dkey : List PageLine → ℕ
last_dkey lines = fold (λ dkey line. dkey_then dkey line.fence) 0 lines

-- what is asked of the lines of a tile before another one
abbrev pub before_of : List PageLine → Before
before_of lines = record { lines = length lines; puts = puts_in lines; entries = entries_in lines; dkey = last_dkey lines }

-- a page of puts has a fence, and a page of tombstones none
abbrev pub IsFence : Class → Option (ℕ × ℕ) → Type 0
IsFence Puts None = ⊥
IsFence Puts (Some fence) = (fence.0 ≤ fence.1) × (fence.1 < 2 ^ 64)
IsFence Tombs None = Unit {0}
IsFence Tombs (Some fence) = ⊥

-- so many words as the filter of so many keys has
pub record IsFilter (entries : ℕ) (words : List ℕ) : Type 0 where
  pub len : length words ≡ div_ceil (10 * entries) 64
  pub each : All (λ word. word < 2 ^ 64) words

-- a line by itself
pub record IsLine (line : PageLine) : Type 0 where
  pub no : line.no ≤ max_place
  pub some : 0 < line.entries
  pub place : IsPlace line.max_seq
  pub oldest : IsTimeOrNone line.oldest
  pub fence : IsFence line.class line.fence
  pub filter : IsFilter line.entries line.filter
  pub digest : length line.digest ≡ 32

-- tombstones are a tile's first page, and there are at most 64 pages of puts
abbrev pub HasRoomFor : Class → List PageLine → Type 0
HasRoomFor Puts before = puts_in before < max_puts
HasRoomFor Tombs before = length before ≡ 0

-- the fence begins where this delete key ends or behind it
abbrev pub IsFrom : ℕ → Option (ℕ × ℕ) → Type 0
IsFrom dkey None = Unit {0}
IsFrom dkey (Some fence) = dkey ≤ fence.0

-- a line of a tile, behind these
pub record LineFollows (before : List PageLine) (line : PageLine) : Type 0 where
  pub itself : IsLine line
  pub room : HasRoomFor line.class before
  pub entries : entries_in before + line.entries ≤ max_tile_entries
  pub fence : IsFrom (last_dkey before) line.fence

-- a tile by itself
pub record IsTile (tile : TileLine) : Type 0 where
  pub lo : IsKey tile.lo
  pub hi : IsKey tile.hi
  pub keys : IsTrue (is_le (key_cmp tile.lo tile.hi))
  pub some : 0 < length tile.pages
  pub few : length tile.pages ≤ 65
  pub lines : EachFollows LineFollows tile.pages

-- the greatest key of the last tile, if there is one
abbrev pub last_hi : List TileLine → Option Bytes
last_hi tiles = fold (λ last tile. Some tile.hi) None tiles

-- a tile of a file, behind these
pub record TileFollows (before : List TileLine) (tile : TileLine) : Type 0 where
  pub itself : IsTile tile
  pub above : IsTrue (is_above (last_hi before) tile.lo)

pub record HasSpelling (h : Header) : Type 0 where
  pub no : h.no ≤ max_place
  pub some : 0 < length h.tiles
  pub few : length h.tiles ≤ 256
  pub tiles : EachFollows TileFollows h.tiles

-- the number of its filter's words has a spelling
abbrev pub HasFewWords : PageLine → Type 0
HasFewWords line = length line.filter < 2 ^ 32

-- its pages have not too many entries
abbrev pub HasFewEntries : TileLine → Type 0
HasFewEntries tile = entries_in tile.pages ≤ max_tile_entries
