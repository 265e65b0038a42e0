-- Pages that are told as damaged, and what a file vouches for on any disk.
use Rattle.std.specs.Prelude.{◌≡◌, ◌⊎◌, ℕ, IsTrue, List, zip, Any, Contains}
use Rattle.lethe_base.specs.Keys.{Bytes}
use Rattle.lethe_base.specs.declared.entry.Entry.{Entry}
use Rattle.lethe_base.specs.declared.name.Name.{Name}
use Rattle.lethe_disk.specs.declared.cursor.ReadRefused.{ReadRefused}
use Rattle.lethe_disk.specs.declared.cursor.ReadRefused.TheVariants.{Damaged, NoMemory}
use Rattle.lethe_header.specs.Facts.{lines_of}
use Rattle.lethe_header.specs.declared.header.PageLine.{PageLine}
use Rattle.lethe_header.specs.declared.header.TileLine.{TileLine}
use Rattle.lethe_page.specs.Pages.{page_bytes}
use Rattle.lethe_file.specs.Agreement.{IsChecked, IsPage, check_of, page_name}
use Rattle.lethe_file.specs.Finding.{allows, has_key}
use Rattle.lethe_file.specs.Waiting.{Waiting, waiting}
use Rattle.lethe_file.specs.declared.page.PageCheck.{PageCheck}
use Rattle.lethe_file.specs.declared.page.PageFault.{PageFault}
use Rattle.lethe_file.specs.declared.page.PageFault.TheVariants.{Other}
use Rattle.lethe_file.specs.declared.page.PageFault.TheVariants as faults
use Rattle.lethe_file.specs.declared.unread.Unread.{Unread}

-- On a disk that tells what it holds these bytes are another page's: no entries have the class, the count and the digest that are told of, and these bytes as their
-- spelling.
abbrev pub IsOther : Type 0 → PageCheck → List ℕ → Type 0
IsOther tells check bytes = tells → (entries : List Entry) → IsChecked check entries → bytes ≡ page_bytes check.class entries → ⊥

-- what a read tells where the bytes aren't the page that is told of
abbrev pub refused_as : PageFault → PageCheck → ReadRefused
refused_as Other check = Damaged (page_name check.no)
refused_as faults.NoMemory check = NoMemory

-- another page than the line's
abbrev pub IsOtherPage : Type 0 → PageLine → List ℕ → Type 0
IsOtherPage tells line bytes = IsOther tells (check_of line) bytes

-- the name is the line's page's, whose bytes are another page's
abbrev pub IsDamagedAs : Type 0 → Name → PageLine → List ℕ → Type 0
IsDamagedAs tells name line bytes = (name ≡ page_name line.no) × IsOtherPage tells line bytes

-- the same of a page that is still to be fetched
abbrev pub IsDamagedIn : Type 0 → Name → Waiting → Type 0
IsDamagedIn tells name page = (name ≡ page_name page.check.no) × IsOther tells page.check page.bytes

-- of the pages that a cursor has still to fetch, one is told by the name
abbrev pub damages_in : {P : Type 0} → Type 0 → (P → List ℕ) → Unread P → Name → Type 0
damages_in tells bytes_of unread name = Any (Any (IsDamagedIn tells name)) (waiting bytes_of unread.tiles.items)

-- The name is that of a page of the tile whose fence has the key; the page's filter allows the key, and its bytes are another page's.
pub record IsDamagedFor (tells : Type 0) (key : Bytes) (tiles : List TileLine) (pages : List (List ℕ)) (name : Name) : Type 0 where
  pub tile : TileLine
  pub there : Contains tiles tile
  pub fence : IsTrue (has_key key tile)
  pub line : PageLine
  pub of_tile : Contains tile.pages line
  pub allowed : IsTrue (allows key line.filter)
  pub bytes : List ℕ
  pub page : Contains (zip (lines_of tiles) pages) (line, bytes)
  pub damaged : IsDamagedAs tells name line bytes

-- one of the lines' pages is told by the name
abbrev pub IsDamagedAmong : Type 0 → List PageLine → List (List ℕ) → Name → Type 0
IsDamagedAmong tells lines pages name = Any (λ of. IsDamagedAs tells name of.0 of.1) (zip lines pages)

-- One of these lines vouches for the entry: it stands in a page of the class, the count and the digest that the line tells of. This holds on any disk.
pub record IsVouched (lines : List PageLine) (entry : Entry) : Type 0 where
  pub line : PageLine
  pub there : Contains lines line
  pub entries : List Entry
  pub page : IsPage line entries
  pub among : Contains entries entry

-- The entry stands in a page of the class, the count and the digest that are told of.
pub record StandsIn (check : PageCheck) (entry : Entry) : Type 0 where
  pub entries : List Entry
  pub page : IsChecked check entries
  pub among : Contains entries entry

-- a page that is still to be fetched vouches for the entry
abbrev pub IsVouchedIn : Entry → Waiting → Type 0
IsVouchedIn entry page = StandsIn page.check entry

-- what a cursor may give on any disk: what it has of the tile that was fetched last, and entries for which a page vouches that is still to be fetched
abbrev pub gives_in : {P : Type 0} → (P → List ℕ) → Unread P → Entry → Type 0
gives_in bytes_of unread entry = Contains unread.entries.items entry ⊎ Any (Any (IsVouchedIn entry)) (waiting bytes_of unread.tiles.items)
