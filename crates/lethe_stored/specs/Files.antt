-- A file as it is stored, the objects that it consists of, and the file of a layout that this is.
use Rattle.std.specs.Prelude.{ℕ, ◌<◌, ◌==◌, List, [], ◌∷◌, map, filter, flat_map, zip, take, drop, length, All}
use Rattle.std.specs.List.{range_with_len}
use Rattle.sha2.specs.Sha256.{sha256}
use Rattle.lethe_base.specs.Layout.{File, Tile}
use Rattle.lethe_base.specs.declared.name.Kind.TheVariants as kinds
use Rattle.lethe_base.specs.declared.name.Name.{Name}
use Rattle.lethe_manifest.specs.declared.manifest.Cited.{Cited}
use Rattle.lethe_header.specs.Facts.{lines_of}
use Rattle.lethe_header.specs.Headers.{header_bytes}
use Rattle.lethe_header.specs.Headers as headers
use Rattle.lethe_header.specs.declared.header.Header.{Header}
use Rattle.lethe_header.specs.declared.header.PageLine.{PageLine}
use Rattle.lethe_header.specs.declared.header.TileLine.{TileLine}
use Rattle.lethe_file.specs.Agreement.{FileAgrees, entries_in, page_name}

-- its level, the place up to which it is swept, its header, and the bytes of its pages in the order of their lines
pub record StoredFile : Type 0 where
  pub level : ℕ
  pub swept : ℕ
  pub header : Header
  pub pages : List (List ℕ)

-- a file as its readers have it: its header, and the bytes of its pages in the order of the header's lines
pub record Parts : Type 0 where
  pub header : Header
  pub pages : List (List ℕ)

abbrev pub parts_of : StoredFile → Parts
parts_of file = record { header = file.header; pages = file.pages }

abbrev pub lines_in : StoredFile → List PageLine
lines_in file = lines_of file.header.tiles

-- how a manifest cites it
abbrev pub cited_of : StoredFile → Cited
cited_of file = record { level = file.level; no = file.header.no; swept = file.swept; digest = sha256 (header_bytes file.header) }

-- its header has a spelling, its pages agree with the header, and their numbers are below the next
pub record IsFile (next : ℕ) (file : StoredFile) : Type 0 where
  pub spelled : headers.HasSpelling file.header
  pub agrees : FileAgrees file.header.tiles file.pages
  pub below : All (λ line. line.no < next) (lines_in file)

-- Objects

abbrev pub file_name : ℕ → Name
file_name number = record { kind = kinds.File; no = number }

-- its header and its pages, each under its name
abbrev pub objects_in : StoredFile → List (Name × List ℕ)
objects_in file = (file_name file.header.no, header_bytes file.header) ∷ map (λ page. (page_name page.0.no, page.1)) (zip (lines_in file) file.pages)

abbrev pub objects_of : List StoredFile → List (Name × List ℕ)
objects_of files = flat_map objects_in files

-- As a layout has it

-- each tile has the next pages, as many as it has lines
abbrev pub tiles_of : List TileLine → List (List ℕ) → List Tile
tiles_of [] pages = []
tiles_of (tile ∷ tiles) pages = record { lo = tile.lo; hi = tile.hi; pages = map entries_in (take (length tile.pages) pages) } ∷ tiles_of tiles (drop (length tile.pages) pages)

abbrev pub file_of : StoredFile → File
file_of file = record { no = file.header.no; swept = file.swept; tiles = tiles_of file.header.tiles file.pages }

-- the files of a level, in their order
abbrev pub at_level : List StoredFile → ℕ → List File
at_level files level = map file_of (filter (λ file. file.level == level) files)

-- the files of each level, from level 0 to the deepest
abbrev pub levels_of : ℕ → List StoredFile → List (List File)
levels_of deepest files = at_level files 0 ∷ map (at_level files) (range_with_len 1 deepest)
