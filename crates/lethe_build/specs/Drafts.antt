-- Files that have no numbers yet, and what they are once they have them.
use Rattle.std.specs.Prelude.{◌≡◌, ℕ, ◌+◌, List, [], ◌∷◌, length, map, flat_map, zip, take, drop}
use Rattle.std.specs.List.{AllZip}
use Rattle.sha2.specs.Sha256.{sha256}
use Rattle.lethe_base.specs.Layout as layout
use Rattle.lethe_base.specs.declared.config.Fields.{Fields}
use Rattle.lethe_base.specs.declared.entry.Entry.{Entry}
use Rattle.lethe_tile.specs.Woven.{joined, IsCut, IsWoven}
use Rattle.lethe_header.specs.Facts.{lines_of}
use Rattle.lethe_header.specs.Headers.{header_bytes, HasSpelling}
use Rattle.lethe_header.specs.declared.header.Header.{Header}
use Rattle.lethe_header.specs.declared.header.PageLine.{PageLine}
use Rattle.lethe_header.specs.declared.header.TileLine.{TileLine}
use Rattle.lethe_file.specs.Agreement.{FileAgrees, entries_in}
use Rattle.lethe_build.specs.Built.{IsToldBy, pages_of, spelled}
use Rattle.lethe_build.specs.declared.built.Built.{Built}
use Rattle.lethe_build.specs.declared.draft.Draft.{Draft}

abbrev pub with_number : ℕ × PageLine → PageLine
with_number pair = record pair.1 { no = pair.0 }

-- the tiles' pages have these numbers, in their order
abbrev pub with_numbers : List ℕ → List TileLine → List TileLine
with_numbers numbers [] = []
with_numbers numbers (tile ∷ tiles) =
    record tile { pages = map with_number (zip (take (length tile.pages) numbers) tile.pages) } ∷ with_numbers (drop (length tile.pages) numbers) tiles

-- the pages of drafts, one draft after another
abbrev pub pages_in : List Draft → List (List ℕ)
pages_in drafts = flat_map (λ draft. draft.pages) drafts

abbrev pub header_of : ℕ → List TileLine → Header
header_of number tiles = record { no = number; tiles = tiles }

-- on any disk: its header has a spelling, and there is a page for each line
pub record IsDraft (draft : Draft) : Type 0 where
  pub spelled : HasSpelling (header_of 0 draft.tiles)
  pub paged : length draft.pages ≡ length (lines_of draft.tiles)

-- the draft of the file of some tiles
pub record IsDraftOf (tiles : List layout.Tile) (draft : Draft) : Type 0 where
  pub lines : AllZip IsToldBy tiles draft.tiles
  pub pages : draft.pages ≡ map spelled (pages_of tiles)
  -- so what the pages spell are the tiles' pages
  pub entries : map entries_in draft.pages ≡ pages_of tiles
  pub agrees : FileAgrees draft.tiles draft.pages
  pub is : IsDraft draft

-- the entries woven into tiles, the tiles cut into files, and of each file the draft
pub record AreDraftsOf (fields : Fields) (entries : List Entry) (drafts : List Draft) : Type 0 where
  pub tiles : List layout.Tile
  pub woven : IsWoven fields entries tiles
  pub groups : List (List layout.Tile)
  pub consecutive : joined groups ≡ tiles
  pub lengths : IsCut fields.file groups
  pub each : AllZip IsDraftOf groups drafts

-- a file takes a number for each page and one for its header
abbrev pub numbers_for : Draft → ℕ
numbers_for draft = length draft.pages + 1

-- the draft's file, with these numbers for its pages and that one for its header
pub record IsNumbered (draft : Draft) (numbers : List ℕ) (no : ℕ) (file : Built) : Type 0 where
  pub header : file.header ≡ header_of no (with_numbers numbers draft.tiles)
  pub pages : file.pages ≡ draft.pages
  pub has_spelling : HasSpelling file.header
  pub bytes : file.header_bytes ≡ header_bytes file.header
  pub digest : file.digest ≡ sha256 file.header_bytes

-- what a draft's tiles are once their pages have numbers
pub record IsNumberedOf (tiles : List layout.Tile) (numbers : List ℕ) (draft : Draft) : Type 0 where
  pub lines : AllZip IsToldBy tiles (with_numbers numbers draft.tiles)
  pub agrees : FileAgrees (with_numbers numbers draft.tiles) draft.pages
