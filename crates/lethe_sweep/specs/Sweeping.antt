-- What a sweep by one erase makes of a file.
use Rattle.std.specs.Prelude.{◌≡◌, ℕ, ◌+◌, ◌<◌, Bool, true, false, List, [], ◌∷◌, ◌++◌, map, filter, flat_map, length, All, Contains, IsPermutation, Some, if◌then◌else◌}
use Rattle.std.specs.List.{AllZip, filter_map}
use Rattle.lethe_base.specs.Entries.{IsAscending}
use Rattle.lethe_base.specs.Ranges.{Ends}
use Rattle.lethe_base.specs.declared.entry.Entry.{Entry}
use Rattle.lethe_base.specs.declared.pending.Pending.{Pending}
use Rattle.lethe_cover.specs.Sweeps.{swept_of}
use Rattle.lethe_tile.specs.Woven.{puts_of, tombs_of}
use Rattle.lethe_header.specs.Facts.{lines_of}
use Rattle.lethe_header.specs.Headers.{is_puts}
use Rattle.lethe_header.specs.declared.header.TileLine.{TileLine}
use Rattle.lethe_swept.specs.Left.{Placed, by_tile, entries_at, fresh, fresh_in, placed, tiles_left}
use Rattle.lethe_swept.specs.declared.part.Part.{Part}
use Rattle.lethe_swept.specs.declared.part.Part.TheVariants.{Kept}
use Rattle.lethe_swept.specs.declared.part.SweptFile.{SweptFile}
use Rattle.lethe_sweep.specs.Fences.{is_kept, is_met, meets}

abbrev pub entries_of : List (List Entry) → List Placed → List Entry
entries_of pages of = flat_map (λ page. entries_at pages page.place) of

-- what the erase leaves of entries
abbrev pub left_in : Bool → Pending → List Entry → List Entry
left_in alone erase entries = filter_map (swept_of alone erase) entries

-- what is left of a page: where its fence meets the range a new page of its puts that the erase leaves, and else the page itself
abbrev pub left_of : Bool → Pending → List (List Entry) → Placed → List Part
left_of alone erase pages page =
    if meets erase.range page.line then fresh (puts_of (left_in alone erase (entries_at pages page.place))) else (Kept page.place ∷ [])

-- the tombstones of the entries where the erase is applied, in the order of their keys
pub record AreTombs (erase : Pending) (entries tombs : List Entry) : Type 0 where
  pub ascending : IsAscending tombs
  pub same : IsPermutation (tombs_of (left_in false erase entries)) tombs

-- What is left of a tile of a file that isn't alone and of which a page meets the range: a page of its tombstones, and what is left of each page of puts.
pub record AreLeft (erase : Pending) (pages : List (List Entry)) (tile : List Placed) (parts : List Part) : Type 0 where
  pub tombs : List Entry
  pub are : AreTombs erase (entries_of pages tile) tombs
  pub parts_are : parts ≡ fresh tombs ++ flat_map (left_of false erase pages) (filter (λ page. is_puts page.line.class) tile)

-- The parts are what a sweep leaves of a tile.
pub record IsSweptTile (alone : Bool) (erase : Pending) (pages : List (List Entry)) (tile : List Placed) (parts : List Part) : Type 0 where
  -- of a tile that no page meets each page stays
  pub whole : All (λ page. meets erase.range page.line ≡ false) tile → parts ≡ map (λ page. Kept page.place) tile
  pub alone_left : alone ≡ true → parts ≡ flat_map (left_of true erase pages) tile
  pub left : alone ≡ false → is_met erase.range (map (λ page. page.line) tile) ≡ true → AreLeft erase pages tile parts

-- the file is what the sweep leaves of these tiles, whose pages have these entries
pub record IsSweptBy (alone : Bool) (erase : Pending) (tiles : List TileLine) (pages : List (List Entry)) (swept : SweptFile) : Type 0 where
  pub parts : List (List Part)
  pub each : AllZip (IsSweptTile alone erase pages) (by_tile 0 tiles) parts
  pub tiles_are : swept.tiles ≡ tiles_left tiles parts

-- the places of those that stay, by the lines alone
abbrev pub kept_places : Bool → Ends → ℕ → List TileLine → List ℕ
kept_places alone range first [] = []
kept_places alone range first (tile ∷ tiles) =
    map (λ page. page.place) (filter (λ page. is_kept alone range tile.pages page.line) (placed first tile.pages)) ++ kept_places alone range (first + length tile.pages) tiles

-- what the covering core asks of a sweep: of the entries those are left that it calls left, and no others
pub record IsSweep (alone : Bool) (erase : Pending) (before left : List Entry) : Type 0 where
  pub from : (output : Entry) → Contains left output → (entry : Entry) × Contains before entry × (swept_of alone erase entry ≡ Some output)
  pub kept : (entry output : Entry) → Contains before entry → swept_of alone erase entry ≡ Some output → Contains left output

-- no entry of the pages of these lines stands behind the erase
abbrev pub IsBehind : Pending → List TileLine → Type 0
IsBehind erase tiles = All (λ line. line.max_seq < erase.seq) (lines_of tiles)

-- the new pages are those of what the sweep leaves
abbrev pub IsFreshOf : Bool → Pending → List TileLine → List (List Entry) → List (List Entry) → Type 0
IsFreshOf alone erase tiles pages new = (swept : SweptFile) × IsSweptBy alone erase tiles pages swept × (new ≡ fresh_in swept)
