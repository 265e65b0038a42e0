-- How a sweep comes to what it leaves, page by page and tile by tile, on any disk.
use Rattle.std.specs.Prelude.{◌≡◌, ℕ, Bool, true, false, List, [], ◌∷◌, ◌++◌, filter, map, length, slice_get, Option, Some}
use Rattle.lethe_base.specs.Ranges.{Ends}
use Rattle.lethe_base.specs.declared.entry.Entry.{Entry}
use Rattle.lethe_base.specs.declared.name.Name.{Name}
use Rattle.lethe_base.specs.declared.pending.Pending.{Pending}
use Rattle.lethe_merge.specs.Merge.{merged}
use Rattle.lethe_tile.specs.Woven.{puts_of, tombs_of}
use Rattle.lethe_header.specs.Facts.{lines_of}
use Rattle.lethe_header.specs.declared.header.TileLine.{TileLine}
use Rattle.lethe_file.specs.Agreement.{IsPage}
use Rattle.lethe_file.specs.Damage.{IsDamagedAs}
use Rattle.lethe_sweep.specs.Fences.{meets}
use Rattle.lethe_sweep.specs.Modes.{mode_of, is_alone, is_fetched_in}
use Rattle.lethe_sweep.specs.Sweeping.{left_in}
use Rattle.lethe_swept.specs.Fits.{is_fenced}
use Rattle.lethe_swept.specs.Left.{Placed, fresh, placed}
use Rattle.lethe_sweep.specs.declared.fence.Mode.{Mode}
use Rattle.lethe_swept.specs.declared.part.Part.{Part}
use Rattle.lethe_swept.specs.declared.part.Part.TheVariants.{Kept}
use Rattle.lethe_swept.specs.declared.part.SweptTile.{SweptTile}

-- The entries that a fetch of the page gave: on any disk they are as its line tells, and on one that tells what it holds they are the page's.
pub record IsRead (tells : Type 0) (pages : List (List Entry)) (page : Placed) (entries : List Entry) : Type 0 where
  pub is_page : IsPage page.line entries
  pub told : tells → slice_get pages page.place ≡ Some entries

-- of the entries those whose delete keys lie in the fence: all of them, where the page agrees with its line
abbrev pub fenced : Option (ℕ × ℕ) → List Entry → List Entry
fenced fence entries = filter (λ entry. is_fenced fence entry.body) entries

-- the tombstones and the parts that are left of some pages of a tile, one page after another
pub data IsLeft (tells : Type 0) (mode : Mode) (erase : Pending) (pages : List (List Entry)) : List Placed → List Entry → List Part → Type 0 where
  Begun : IsLeft tells mode erase pages [] [] []
  Stays : (before : List Placed) (tombs : List Entry) (parts : List Part) → IsLeft tells mode erase pages before tombs parts
      → (page : Placed) → is_fetched_in mode erase.range page.line ≡ false → meets erase.range page.line ≡ false
      → IsLeft tells mode erase pages (before ++ page ∷ []) tombs (parts ++ Kept page.place ∷ [])
  Goes : (before : List Placed) (tombs : List Entry) (parts : List Part) → IsLeft tells mode erase pages before tombs parts
      → (page : Placed) → is_fetched_in mode erase.range page.line ≡ false → meets erase.range page.line ≡ true
      → IsLeft tells mode erase pages (before ++ page ∷ []) tombs parts
  Fetched : (before : List Placed) (tombs : List Entry) (parts : List Part) → IsLeft tells mode erase pages before tombs parts
      → (page : Placed) → is_fetched_in mode erase.range page.line ≡ true → (entries : List Entry) → IsRead tells pages page entries
      → IsLeft tells mode erase pages (before ++ page ∷ []) (tombs ++ tombs_of (left_in (is_alone mode) erase (fenced page.line.fence entries))) (parts ++ fresh (puts_of (left_in (is_alone mode) erase (fenced page.line.fence entries))))

-- what is left of a tile: a page of the tombstones, and the parts
pub record IsTileLeft (tells : Type 0) (alone : Bool) (erase : Pending) (pages : List (List Entry)) (tile : List Placed) (parts : List Part) : Type 0 where
  pub tombs : List Entry
  pub own : List Part
  pub left : IsLeft tells (mode_of alone erase.range (map (λ page. page.line) tile)) erase pages tile tombs own
  pub parts_are : parts ≡ fresh (merged tombs [] false) ++ own

-- the tile, where a part of it is left
abbrev pub tile_left : TileLine → List Part → List SweptTile
tile_left tile [] = []
tile_left tile (part ∷ parts) = record { lo = tile.lo; hi = tile.hi; parts = part ∷ parts } ∷ []

-- what is left of some tiles, one after another
pub data AreTilesLeft (tells : Type 0) (alone : Bool) (erase : Pending) (pages : List (List Entry)) : List TileLine → List SweptTile → Type 0 where
  NoTile : AreTilesLeft tells alone erase pages [] []
  More : (before : List TileLine) (swept : List SweptTile) → AreTilesLeft tells alone erase pages before swept
      → (tile : TileLine) (parts : List Part) → IsTileLeft tells alone erase pages (placed (length (lines_of before)) tile.pages) parts
      → AreTilesLeft tells alone erase pages (before ++ tile ∷ []) (swept ++ tile_left tile parts)

-- the page is fetched, and the name tells it as damaged
pub record IsDamagedPage (tells : Type 0) (mode : Mode) (range : Ends) (bytes : List (List ℕ)) (name : Name) (page : Placed) : Type 0 where
  pub fetched : is_fetched_in mode range page.line ≡ true
  pub own : List ℕ
  pub there : slice_get bytes page.place ≡ Some own
  pub damaged : IsDamagedAs tells name page.line own
