-- The file that is made of what a sweep leaves, before its new pages have numbers, and once they have them.
use Rattle.std.specs.Prelude.{◌≡◌, ℕ, ◌+◌, ◌<◌, List, [], ◌∷◌, length, drop, map, flat_map, filter_map, slice_get, Option, Some, None}
use Rattle.std.specs.List.{AllZip}
use Rattle.sha2.specs.Sha256.{sha256}
use Rattle.lethe_header.specs.Facts.{lines_of}
use Rattle.lethe_header.specs.Headers.{header_bytes, HasSpelling}
use Rattle.lethe_header.specs.declared.header.PageLine.{PageLine}
use Rattle.lethe_header.specs.declared.header.TileLine.{TileLine}
use Rattle.lethe_file.specs.Agreement.{entries_in}
use Rattle.lethe_build.specs.Built.{spelled}
use Rattle.lethe_build.specs.Drafts.{with_number}
pub use Rattle.lethe_build.specs.Drafts.{header_of}
use Rattle.lethe_build.specs.Parts.{IsLineOf, IsPage}
use Rattle.lethe_build.specs.declared.built.Built.{Built}
use Rattle.lethe_swept.specs.Left.{fresh_in}
use Rattle.lethe_swept.specs.declared.draft.DraftLine.{DraftLine}
use Rattle.lethe_swept.specs.declared.draft.DraftLine.TheVariants.{Own, New}
use Rattle.lethe_swept.specs.declared.draft.DraftTile.{DraftTile}
use Rattle.lethe_swept.specs.declared.draft.SweptDraft.{SweptDraft}
use Rattle.lethe_swept.specs.declared.part.Part.{Part}
use Rattle.lethe_swept.specs.declared.part.Part.TheVariants.{Kept, Fresh}
use Rattle.lethe_swept.specs.declared.part.SweptFile.{SweptFile}
use Rattle.lethe_swept.specs.declared.part.SweptTile.{SweptTile}

-- the line of a new page
abbrev pub new_line : DraftLine → Option PageLine
new_line (Own line) = None
new_line (New line) = Some line

-- the lines of the new pages of a tile
abbrev pub new_in : DraftTile → List PageLine
new_in tile = filter_map new_line tile.lines

-- the lines of all new pages, in order
abbrev pub new_lines : SweptDraft → List PageLine
new_lines draft = flat_map new_in draft.tiles

-- The lines, of which those of new pages have these numbers, in their order. Where there are no more numbers they keep their own.
abbrev pub numbered : List ℕ → List DraftLine → List PageLine
numbered numbers [] = []
numbered numbers (Own line ∷ lines) = line ∷ numbered numbers lines
numbered [] (New line ∷ lines) = line ∷ numbered [] lines
numbered (number ∷ numbers) (New line ∷ lines) = with_number (number, line) ∷ numbered numbers lines

abbrev pub tile_of : DraftTile → List ℕ → TileLine
tile_of tile numbers = record { lo = tile.lo; hi = tile.hi; pages = numbered numbers tile.lines }

-- the tiles, whose new pages have these numbers, in their order
abbrev pub tiles_with : List ℕ → List DraftTile → List TileLine
tiles_with numbers [] = []
tiles_with numbers (tile ∷ tiles) = tile_of tile numbers ∷ tiles_with (drop (length (new_in tile)) numbers) tiles

-- on any disk: its header has a spelling, and there are the bytes of a page for each line of a new one
pub record IsDraft (draft : SweptDraft) : Type 0 where
  pub has_spelling : HasSpelling (header_of 0 (tiles_with [] draft.tiles))
  pub paged : length draft.pages ≡ length (new_lines draft)

-- the page's own line among these, or the line of a new page, which has no number yet: 0 stands in its place
abbrev pub IsLineFor : List PageLine → Part → DraftLine → Type 0
IsLineFor lines (Kept place) (Own line) = slice_get lines place ≡ Some line
IsLineFor lines (Kept place) (New line) = ⊥
IsLineFor lines (Fresh entries) (Own line) = ⊥
IsLineFor lines (Fresh entries) (New line) = IsLineOf entries line × (line.no ≡ 0)

-- the page is one of these, or its entries make a page
abbrev pub MayBeDrafted : List PageLine → Part → Type 0
MayBeDrafted lines (Kept place) = place < length lines
MayBeDrafted lines (Fresh entries) = IsPage entries

-- the bytes of the page, if it is new
abbrev pub spelled_in : Part → List (List ℕ)
spelled_in (Kept place) = []
spelled_in (Fresh entries) = spelled entries ∷ []

pub record IsTileFor (lines : List PageLine) (tile : SweptTile) (draft : DraftTile) : Type 0 where
  pub lo : draft.lo ≡ tile.lo
  pub hi : draft.hi ≡ tile.hi
  pub parts : AllZip (IsLineFor lines) tile.parts draft.lines

-- the draft of what is left of the file of these tiles
pub record IsDraftOf (tiles : List TileLine) (swept : SweptFile) (draft : SweptDraft) : Type 0 where
  pub each : AllZip (IsTileFor (lines_of tiles)) swept.tiles draft.tiles
  pub pages : draft.pages ≡ map spelled (fresh_in swept)
  -- so what the new pages spell are their entries
  pub entries : map entries_in draft.pages ≡ fresh_in swept
  pub is : IsDraft draft

-- it takes a number for each new page and one for its header
abbrev pub numbers_for : SweptDraft → ℕ
numbers_for draft = length draft.pages + 1

-- the draft's file, with these numbers for its new pages and that one for its header; its pages that are to be written are the new ones
pub record IsNumbered (draft : SweptDraft) (numbers : List ℕ) (no : ℕ) (file : Built) : Type 0 where
  pub header : file.header ≡ header_of no (tiles_with numbers draft.tiles)
  pub pages : file.pages ≡ draft.pages
  pub has_spelling : HasSpelling file.header
  pub bytes : file.header_bytes ≡ header_bytes file.header
  pub digest : file.digest ≡ sha256 file.header_bytes
