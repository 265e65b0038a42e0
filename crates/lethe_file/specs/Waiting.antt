-- What a cursor over a file has still to give, and the pages that it has still to fetch.
use Rattle.std.specs.Prelude.{◌≡◌, ℕ, List, [], ◌∷◌, ◌++◌, map, filter, flat_map, length, take, drop, reverse, All, Option, if◌then◌else◌}
use Rattle.std.specs.Ordering.{is_lt}
use Rattle.lethe_base.specs.Entries.{IsAscending}
use Rattle.lethe_base.specs.Keys.{Bytes, key_cmp}
use Rattle.lethe_base.specs.declared.entry.Entry.{Entry}
use Rattle.lethe_header.specs.declared.header.PageLine.{PageLine}
use Rattle.lethe_header.specs.declared.header.TileLine.{TileLine}
use Rattle.lethe_page.specs.Pages.{page_bytes}
use Rattle.lethe_file.specs.Agreement.{IsChecked, check_of, entries_in}
use Rattle.lethe_file.specs.Between.{is_in, meets}
use Rattle.lethe_file.specs.declared.unread.Unread.{Unread}
use Rattle.lethe_file.specs.declared.holding.HeldPage.{HeldPage}
use Rattle.lethe_file.specs.declared.page.PageCheck.{PageCheck}

-- an entry put before the first one of a greater key
abbrev pub put_in : Entry → List Entry → List Entry
put_in entry [] = entry ∷ []
put_in entry (next ∷ rest) = if is_lt (key_cmp entry.key next.key) then (entry ∷ next ∷ rest) else (next ∷ put_in entry rest)

-- the entries in the order of their keys
abbrev pub in_order : List Entry → List Entry
in_order [] = []
in_order (entry ∷ entries) = put_in entry (in_order entries)

-- a page that is still to be fetched: what its line tells of it, and its bytes
pub record Waiting : Type 0 where
  pub check : PageCheck
  pub bytes : List ℕ

-- the pages that are held, where a page has these bytes
abbrev pub waits_in : {P : Type 0} → (P → List ℕ) → List (HeldPage P) → List Waiting
waits_in bytes_of pages = map (λ held. record { check = held.check; bytes = bytes_of held.page.value }) pages

-- the same of each tile
abbrev pub waiting : {P : Type 0} → (P → List ℕ) → List (List (HeldPage P)) → List (List Waiting)
waiting bytes_of tiles = map (waits_in bytes_of) tiles

-- a tile's entries in the range, ascending
abbrev pub of_waiting : Bytes → Option Bytes → List Waiting → List Entry
of_waiting lo hi tile = in_order (filter (λ entry. is_in lo hi entry.key) (flat_map (λ page. entries_in page.bytes) tile))

-- what is left of a tile that was fetched, its greatest key first, and then what the other tiles have, the last of them first
abbrev pub left_of : Bytes → Option Bytes → List (List Waiting) → List Entry → List Entry
left_of lo hi tiles entries = reverse entries ++ flat_map (of_waiting lo hi) (reverse tiles)

-- the numbers of the pages that are still to be fetched, in the order of their tiles
abbrev pub awaited : List (List Waiting) → List ℕ
awaited tiles = flat_map (λ tile. map (λ page. page.check.no) tile) (reverse tiles)

-- the page is the one that its line tells of
pub record IsWritten (page : Waiting) : Type 0 where
  pub checked : IsChecked page.check (entries_in page.bytes)
  pub spelled : page.bytes ≡ page_bytes page.check.class (entries_in page.bytes)

-- the disk tells what it holds, the pages are those that were written, and what is left ascends
pub record IsSound (tells : Type 0) (lo : Bytes) (hi : Option Bytes) (tiles : List (List Waiting)) (entries : List Entry) : Type 0 where
  pub told : tells
  pub pages : All (All IsWritten) tiles
  pub ascending : IsAscending (left_of lo hi tiles entries)

-- the same of a whole cursor, over a kind of disk whose pages have these bytes
abbrev pub left_in : {P : Type 0} → (P → List ℕ) → Unread P → List Entry
left_in bytes_of unread = left_of unread.range.lo unread.range.hi (waiting bytes_of unread.tiles.items) unread.entries.items

abbrev pub awaited_in : {P : Type 0} → (P → List ℕ) → Unread P → List ℕ
awaited_in bytes_of unread = awaited (waiting bytes_of unread.tiles.items)

abbrev pub IsSoundIn : {P : Type 0} → Type 0 → (P → List ℕ) → Unread P → Type 0
IsSoundIn tells bytes_of unread = IsSound tells unread.range.lo unread.range.hi (waiting bytes_of unread.tiles.items) unread.entries.items

-- the pages of these lines
abbrev pub waits_for : List PageLine → List (List ℕ) → List Waiting
waits_for (line ∷ lines) (page ∷ pages) = record { check = check_of line; bytes = page } ∷ waits_for lines pages
waits_for lines pages = []

-- of each tile that meets the range, its pages
abbrev pub tiles_between : Bytes → Option Bytes → List TileLine → List (List ℕ) → List (List Waiting)
tiles_between lo hi [] pages = []
tiles_between lo hi (tile ∷ tiles) pages =
    let rest = tiles_between lo hi tiles (drop (length tile.pages) pages) in
    if meets lo hi tile then (waits_for tile.pages (take (length tile.pages) pages) ∷ rest) else rest
