-- The pages and the tiles of the files that entries make.
use Rattle.std.specs.Prelude.{◌≡◌, ℕ, ◌*◌, List, [], ◌∷◌, length, flat_map}
use Rattle.lethe_base.specs.Layout as layout
use Rattle.lethe_base.specs.declared.entry.Body.{Body}
use Rattle.lethe_base.specs.declared.entry.Body.TheVariants.{Put, Tomb}
use Rattle.lethe_base.specs.declared.entry.Entry.{Entry}
use Rattle.lethe_page.specs.Pages.{page_bytes}
use Rattle.lethe_page.specs.declared.class.Class.{Class}
use Rattle.lethe_page.specs.declared.class.Class.TheVariants.{Puts, Tombs}
use Rattle.lethe_header.specs.declared.header.TileLine.{TileLine}

abbrev pub class_of_body : Body → Class
class_of_body (Put dkey value) = Puts
class_of_body Tomb = Tombs

-- what the entries of a page are, by the first of them
abbrev pub class_of : List Entry → Class
class_of [] = Puts
class_of (entry ∷ entries) = class_of_body entry.body

-- the bytes of the page of these entries
abbrev pub spelled : List Entry → List ℕ
spelled entries = page_bytes (class_of entries) entries

-- the pages of some tiles, in order
abbrev pub pages_of : List layout.Tile → List (List Entry)
pages_of tiles = flat_map (λ tile. tile.pages) tiles

-- a tile's keys stand in its line, and each of its pages has a line
pub record IsToldBy (tile : layout.Tile) (line : TileLine) : Type 0 where
  pub lo : line.lo ≡ tile.lo
  pub hi : line.hi ≡ tile.hi
  pub pages : length line.pages ≡ length tile.pages

-- so many entries make at most so many objects: each page has an entry, and each file a page
abbrev pub most_numbers : ℕ → ℕ
most_numbers entries = 2 * entries
