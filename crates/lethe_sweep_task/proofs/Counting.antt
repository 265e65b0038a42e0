-- A draft takes no more numbers than as many entries take as its file has, and a file has not too many.
use Rattle.std.proofs.Common.{◌≡◌, ℕ, ◌+◌, ◌*◌, ◌≤◌, ◌<◌, List, [], ◌∷◌, length, map, All, inl, inr, refl, ap, length-append, arith}
use Rattle.std.specs.Prelude.{filter_map, flat_map}
use Rattle.std.specs.List.{AllZip}
use Rattle.std.proofs.lemmas.List.{length-map}
use Rattle.std.proofs.lemmas.List.Elements.{All-head, All-tail, filter_map-append}
use Rattle.std.proofs.lemmas.List.Sums.{sum_by-append, sum_by-cons}
use Rattle.lethe_base.specs.declared.entry.Entry.{Entry}
use Rattle.lethe_header.specs.Facts.{lines_of}
use Rattle.lethe_header.specs.Headers.{EachFollows, HasFewEntries, HasSpelling, LineFollows, TileFollows, entries_in, max_tile_entries}
use Rattle.lethe_header.specs.declared.header.Header.{Header}
use Rattle.lethe_header.specs.declared.header.PageLine.{PageLine}
use Rattle.lethe_header.specs.declared.header.TileLine.{TileLine}
use Rattle.lethe_header.proofs.Lines.{have_few_entries}
use Rattle.lethe_swept.specs.Built.{most_numbers, spelled}
use Rattle.lethe_swept.specs.Drafts.{IsDraftOf, numbers_for}
use Rattle.lethe_swept.specs.Fits.{End, Fits, FitsTile, Gone, Left, StandFor, StandsFor, len_of, puts_pages}
use Rattle.lethe_swept.specs.Left.{Placed, by_tile, fresh, fresh_in, fresh_of, placed, tiles_left}
use Rattle.lethe_swept.specs.declared.draft.SweptDraft.{SweptDraft}
use Rattle.lethe_swept.specs.declared.part.Part.{Part}
use Rattle.lethe_swept.specs.declared.part.Part.TheVariants.{Kept, Fresh}
use Rattle.lethe_swept.specs.declared.part.SweptFile.{SweptFile}
use Rattle.lethe_swept.specs.declared.part.SweptTile.{SweptTile}

abbrev entries_of : PageLine → ℕ
entries_of line = line.entries

-- ---- a file has an entry

lines_some : (lines : List PageLine) → 0 < length lines → EachFollows LineFollows lines → 0 < entries_in lines
lines_some [] some each = absurd (omega (arith, some))
lines_some (line ∷ lines) some each = let here = (each [] lines line refl).itself.some in omega (arith, here, sum_by-cons entries_of line lines)

file_some : (tiles : List TileLine) → 0 < length tiles → EachFollows TileFollows tiles → 0 < entries_in (lines_of tiles)
file_some [] some each = absurd (omega (arith, some))
file_some (tile ∷ tiles) some each =
    let is = (each [] tiles tile refl).itself in
    let here = lines_some tile.pages is.some is.lines in
    omega (arith, here, sum_by-append entries_of tile.pages (lines_of tiles))

lined : (tiles : List TileLine) → 0 < length tiles → EachFollows TileFollows tiles → 0 < length (lines_of tiles)
lined [] some each = absurd (omega (arith, some))
lined (tile ∷ tiles) some each = let here = (each [] tiles tile refl).itself.some in omega (arith, here, length-append tile.pages (lines_of tiles))

pub has_line : (header : Header) → HasSpelling header → 0 < length (lines_of header.tiles)
has_line header has = lined header.tiles has.some has.tiles

-- ---- it has not too many

tiles_hold : (tiles : List TileLine) → All HasFewEntries tiles → entries_in (lines_of tiles) ≤ max_tile_entries * length tiles
tiles_hold [] few = omega arith
tiles_hold (tile ∷ tiles) few =
    let here : entries_in tile.pages ≤ max_tile_entries = All-head HasFewEntries tile tiles few in
    let rest = tiles_hold tiles (All-tail HasFewEntries tile tiles few) in
    omega (arith, here, rest, sum_by-append entries_of tile.pages (lines_of tiles))

pub file_holds : (header : Header) → HasSpelling header → entries_in (lines_of header.tiles) ≤ max_tile_entries * 256
file_holds header has =
    let few = has.few in
    omega (arith, few, tiles_hold header.tiles (have_few_entries header.tiles has.tiles))

-- ---- each new page has an entry of its own

abbrev new_pages : List Part → ℕ
new_pages parts = length (filter_map fresh_of parts)

fresh_few : (entries : List Entry) → new_pages (fresh entries) ≤ length entries
fresh_few [] = omega arith
fresh_few (entry ∷ entries) = omega arith

parts_few : (pages : List Placed) (parts : List Part) (count : ℕ) → StandFor pages parts count → new_pages parts ≤ count
parts_few pages parts count End = omega arith
parts_few pages parts count (Gone page rest parts' count' stand) = parts_few rest parts' count' stand
parts_few pages parts count (Left page part rest parts' count' stands stand) = by part stands (parts_few rest parts' count' stand)
  where
    by : (part : Part) → StandsFor page part → new_pages parts' ≤ count' → new_pages (part ∷ parts') ≤ len_of page part + count'
    by (Kept place) stands few = omega (arith, few)
    by (Fresh entries) stands few = let some = stands.page.has_spelling.some in omega (arith, some, few)

tile_few : (tile : List Placed) (parts : List Part) → FitsTile tile parts → new_pages parts ≤ entries_in (map (λ page. page.line) tile)
tile_few tile parts fits =
    let few = fits.few in
    let same = ap new_pages fits.parts_are in
    let split = ap length (filter_map-append fresh_of (fresh fits.tombs) fits.own) in
    let own : new_pages fits.own ≤ fits.count =
    elim fits.stand [
      | inl none ↦ parts_few tile fits.own fits.count none.1
      | inr tombs ↦ parts_few (puts_pages tile) fits.own fits.count tombs.1
    ] in
    omega (arith, few, same, split, own, fresh_few fits.tombs, length-append (filter_map fresh_of (fresh fits.tombs)) (filter_map fresh_of fits.own))

lines_placed : (first : ℕ) (lines : List PageLine) → map (λ (page : Placed). page.line) (placed first lines) ≡ lines
lines_placed first [] = refl
lines_placed first (line ∷ lines) = ap (λ (ls : List PageLine). line ∷ ls) (lines_placed (first + 1) lines)

abbrev parts_of : List SweptTile → List Part
parts_of tiles = flat_map (λ tile. tile.parts) tiles

tiles_few : (first : ℕ) (tiles : List TileLine) (parts : List (List Part)) → AllZip FitsTile (by_tile first tiles) parts → new_pages (parts_of (tiles_left tiles parts)) ≤ entries_in (lines_of tiles)
tiles_few first [] parts fits = omega arith
tiles_few first (tile ∷ tiles) [] fits = absurd fits
tiles_few first (tile ∷ tiles) ([] ∷ parts) fits =
    let rest = tiles_few (first + length tile.pages) tiles parts fits.1 in
    omega (arith, rest, sum_by-append entries_of tile.pages (lines_of tiles))
tiles_few first (tile ∷ tiles) ((part ∷ own) ∷ parts) fits =
    let here = tile_few (placed first tile.pages) (part ∷ own) fits.0 in
    let same = ap entries_in (lines_placed first tile.pages) in
    let rest = tiles_few (first + length tile.pages) tiles parts fits.1 in
    let others = parts_of (tiles_left tiles parts) in
    let split = ap length (filter_map-append fresh_of (part ∷ own) others) in
    omega (arith, here, same, rest, split, sum_by-append entries_of tile.pages (lines_of tiles), length-append (filter_map fresh_of (part ∷ own)) (filter_map fresh_of others))

-- ---- so a draft takes so many numbers

pub numbers_bounded : (header : Header) (swept : SweptFile) (draft : SweptDraft) → HasSpelling header → Fits header.tiles swept → IsDraftOf header.tiles swept draft
    → numbers_for draft ≤ most_numbers (entries_in (lines_of header.tiles))
numbers_bounded header swept draft has fits is =
    let some = file_some header.tiles has.some has.tiles in
    let few = tiles_few 0 header.tiles fits.parts fits.each in
    let same = ap (λ (ts : List SweptTile). new_pages (parts_of ts)) fits.tiles_are in
    let pages = ap length is.pages in
    omega (arith, some, few, same, pages, length-map (fresh_in swept) spelled)
