-- What is left of a file: of each tile pages that stay, by their places, and the entries of new ones.
use Rattle.std.specs.Prelude.{ℕ, ◌+◌, Bool, true, false, List, [], ◌∷◌, map, filter, flat_map, filter_map, zip, length, slice_index_or, All, Option, Some, None}
use Rattle.lethe_base.specs.declared.entry.Entry.{Entry}
use Rattle.lethe_build.specs.Built.{spelled}
use Rattle.lethe_header.specs.declared.header.PageLine.{PageLine}
use Rattle.lethe_header.specs.declared.header.TileLine.{TileLine}
use Rattle.lethe_file.specs.Agreement.{TileHolds}
use Rattle.lethe_swept.specs.declared.part.Part.{Part}
use Rattle.lethe_swept.specs.declared.part.Part.TheVariants.{Kept, Fresh}
use Rattle.lethe_swept.specs.declared.part.SweptTile.{SweptTile}
use Rattle.lethe_swept.specs.declared.part.SweptFile.{SweptFile}

-- Pages by their places.

-- a page: its place among the file's pages, and its line
pub record Placed : Type 0 where
  pub place : ℕ
  pub line : PageLine

-- the pages of these lines, the first of which has that place
abbrev pub placed : ℕ → List PageLine → List Placed
placed first [] = []
placed first (line ∷ lines) = record { place = first; line = line } ∷ placed (first + 1) lines

-- the pages of each tile
abbrev pub by_tile : ℕ → List TileLine → List (List Placed)
by_tile first [] = []
by_tile first (tile ∷ tiles) = placed first tile.pages ∷ by_tile (first + length tile.pages) tiles

-- the entries of the page at a place
abbrev pub entries_at : List (List Entry) → ℕ → List Entry
entries_at pages place = slice_index_or pages place []

-- What is left of tiles.

-- the new page of these entries, and none where there are none
abbrev pub fresh : List Entry → List Part
fresh [] = []
fresh (entry ∷ entries) = Fresh (entry ∷ entries) ∷ []

-- a tile with its bounds as they were
abbrev pub bounded : TileLine × List Part → SweptTile
bounded left = record { lo = left.0.lo; hi = left.0.hi; parts = left.1 }

abbrev pub has_parts : List Part → Bool
has_parts [] = false
has_parts (part ∷ parts) = true

-- of the tiles those that keep a page or get one
abbrev pub tiles_left : List TileLine → List (List Part) → List SweptTile
tiles_left tiles parts = filter (λ tile. has_parts tile.parts) (map bounded (zip tiles parts))

-- What stands in it.

-- the place of a page that stays
abbrev pub place_of : Part → Option ℕ
place_of (Kept place) = Some place
place_of (Fresh entries) = None

-- the entries of a new page
abbrev pub fresh_of : Part → Option (List Entry)
fresh_of (Kept place) = None
fresh_of (Fresh entries) = Some entries

abbrev pub parts_in : SweptFile → List Part
parts_in swept = flat_map (λ tile. tile.parts) swept.tiles

-- the places of the pages that stay, in order
abbrev pub places_in : SweptFile → List ℕ
places_in swept = filter_map place_of (parts_in swept)

-- the new pages, in order
abbrev pub fresh_in : SweptFile → List (List Entry)
fresh_in swept = filter_map fresh_of (parts_in swept)

-- the entries of a page that stays or is new
abbrev pub entries_with : List (List Entry) → Part → List Entry
entries_with pages (Kept place) = entries_at pages place
entries_with pages (Fresh entries) = entries

-- the pages of a tile that is left
abbrev pub pages_left : List (List Entry) → SweptTile → List (List Entry)
pages_left pages tile = map (entries_with pages) tile.parts

-- all entries that are left
abbrev pub entries_left : List (List Entry) → SweptFile → List Entry
entries_left pages swept = flat_map (entries_with pages) (parts_in swept)

-- the bytes of a page that stays or is new
abbrev pub bytes_with : List (List ℕ) → Part → List ℕ
bytes_with pages (Kept place) = slice_index_or pages place []
bytes_with pages (Fresh entries) = spelled entries

-- the bytes of all pages that are left, in order
abbrev pub bytes_left : List (List ℕ) → SweptFile → List (List ℕ)
bytes_left pages swept = map (bytes_with pages) (parts_in swept)

abbrev pub bounds_of : SweptTile → TileLine
bounds_of tile = record { lo = tile.lo; hi = tile.hi; pages = [] }

-- each tile's entries have keys between its two keys, and no key stands in two of its pages
abbrev pub AreHeld : List (List Entry) → SweptFile → Type 0
AreHeld pages swept = All (λ tile. TileHolds (bounds_of tile) (pages_left pages tile)) swept.tiles
