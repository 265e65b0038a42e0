-- The entry of a key in a file, and the pages that may hold it.
use Rattle.std.specs.Prelude.{◌≡◌, ◌≢◌, ◌↔◌, ◌≤◌, ◌<◌, ℕ, ◌+◌, ◌*◌, ◌%◌, ◌/◌, ◌==◌, ◌&&◌, Bool, IsTrue, List, [], ◌∷◌, length, slice_index, slice_index_or, take, drop, sum_by, count_by, All, Any, Contains, Option, Some, None, if◌then◌else◌}
use Rattle.std.specs.Int.{bit_at}
use Rattle.std.specs.List.{list_all}
use Rattle.std.specs.Ordering.{is_le}
use Rattle.lethe_base.specs.Keys.{Bytes, key_cmp}
use Rattle.lethe_base.specs.declared.entry.Entry.{Entry}
use Rattle.lethe_page.specs.Pages.{page_bytes}
use Rattle.lethe_header.specs.Filters.{hash_of, start_of, step_of}
use Rattle.lethe_header.specs.Facts.{lines_of}
use Rattle.lethe_header.specs.declared.header.PageLine.{PageLine}
use Rattle.lethe_header.specs.declared.header.TileLine.{TileLine}
use Rattle.lethe_file.specs.Agreement.{IsChecked}
use Rattle.lethe_file.specs.declared.page.PageCheck.{PageCheck}

-- none of these has the key
abbrev pub Lacks : Bytes → List Entry → Type 0
Lacks key entries = All (λ entry. entry.key ≢ key) entries

-- it is the entry of the key in one of these pages, and None where none has the key
abbrev pub IsEntryOf : Bytes → List (List Entry) → Option Entry → Type 0
IsEntryOf key pages None = All (Lacks key) pages
IsEntryOf key pages (Some entry) = Any (λ page. Contains page entry) pages × (entry.key ≡ key)

-- it is the entry of the key in the page of these bytes, which the check tells of
pub record IsFoundIn (check : PageCheck) (key : Bytes) (bytes : List ℕ) (found : Option Entry) : Type 0 where
  pub entries : List Entry
  pub page : IsChecked check entries
  pub spelled : bytes ≡ page_bytes check.class entries
  pub entry : IsEntryOf key (entries ∷ []) found

-- the tile's fence has the key
abbrev pub has_key : Bytes → TileLine → Bool
has_key key tile = is_le (key_cmp tile.lo key) && is_le (key_cmp key tile.hi)

abbrev pub is_set : List ℕ → ℕ → Bool
is_set words bit = bit_at (slice_index words (bit / 64)) (bit % 64) == 1

-- the filter of these words allows the key: all its six bits are set
unfoldable pub allows : Bytes → List ℕ → Bool
allows key words = list_all (λ i. is_set words ((start_of (hash_of key) + i * step_of (hash_of key)) % (64 * length words))) (0 ∷ 1 ∷ 2 ∷ 3 ∷ 4 ∷ 5 ∷ [])

-- how many pages of these lines have a filter that allows the key
abbrev pub allowed_in : Bytes → List PageLine → ℕ
allowed_in key lines = count_by (λ line. allows key line.filter) lines

-- how many pages have a filter that allows the key, in the tile whose fence has it; 0 where there is no such tile
abbrev pub allowed_pages : Bytes → List TileLine → ℕ
allowed_pages key tiles = sum_by (λ tile. if has_key key tile then allowed_in key tile.pages else 0) tiles

-- the tile at a place is the one whose fence has the key; the place is past the last tile where none has it
abbrev pub IsTileOf : Bytes → List TileLine → ℕ → Type 0
IsTileOf key tiles place = (place ≤ length tiles) × ((k : ℕ) (d : TileLine) → k < length tiles → (IsTrue (has_key key (slice_index_or tiles k d)) ↔ (k ≡ place)))

-- of what the lines of these tiles have, one for each, what those of one tile have
abbrev pub of_tile : {A : Type 0} → List TileLine → ℕ → TileLine → List A → List A
of_tile tiles place other items = take (length (slice_index_or tiles place other).pages) (drop (length (lines_of (take place tiles))) items)

-- of each tile, how many pages stand in the tiles in front of it
abbrev pub AreStarts : List TileLine → List ℕ → Type 0
AreStarts tiles starts = (length starts ≡ length tiles) × ((k : ℕ) → k < length tiles → slice_index starts k ≡ length (lines_of (take k tiles)))
