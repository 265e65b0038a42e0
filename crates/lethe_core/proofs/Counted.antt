-- How many entries files have.
use Rattle.std.proofs.Common.{◌≡◌, ℕ, ◌<◌, ◌≤◌, List, [], ◌∷◌, ◌++◌, map, length, All, refl, sym, ap, ◌∙◌, length-append, arith}
use Rattle.std.specs.Prelude.{flat_map, sum_by}
use Rattle.std.specs.List.{AllZip}
use Rattle.std.proofs.lemmas.List.Concat.{flat_map-append}
use Rattle.std.proofs.lemmas.List.Elements.{All-head, All-tail}
use Rattle.std.proofs.lemmas.List.Sums.{sum_by-cons}
use Rattle.lethe_base.specs.Layout.{File, Tile, entries_of}
use Rattle.lethe_base.specs.declared.config.Fields.{Fields}
use Rattle.lethe_base.specs.declared.entry.Entry.{Entry}
use Rattle.lethe_base.specs.declared.shape.FileFacts.{FileFacts}
use Rattle.lethe_build.proofs.Whole.{tile_long}
use Rattle.lethe_file.specs.Agreement.{Agrees}
use Rattle.lethe_file.specs.Agreement as agreement
use Rattle.lethe_follows.specs.Merged.{entries_in}
use Rattle.lethe_follows.specs.Woven.{AreCutOf}
use Rattle.lethe_header.specs.Facts.{lines_of}
use Rattle.lethe_header.specs.Headers as headers
use Rattle.lethe_header.specs.declared.header.Header.{Header}
use Rattle.lethe_header.specs.declared.header.PageLine.{PageLine}
use Rattle.lethe_header.specs.declared.header.TileLine.{TileLine}
use Rattle.lethe_header.proofs.Lines.{are_tiles}
use Rattle.lethe_stored.specs.Files.{StoredFile, IsFile, file_of, lines_in}
use Rattle.lethe_stored.proofs.FileFacts.{as_many, entries_are, facts_are}
use Rattle.lethe_tile.specs.Woven.{joined, IsTile, IsWoven}

-- The entries of stored files

-- by its header's lines
abbrev pub entries_by : StoredFile → ℕ
entries_by file = headers.entries_in (lines_in file)

-- it has as many
pub counted : (next : ℕ) (file : StoredFile) → IsFile next file → entries_by file ≡ length (entries_of (file_of file))
counted next file is = ap (λ (facts : FileFacts). facts.entries) (facts_are next 0 file is)

pub all_counted : (next : ℕ) (files : List StoredFile) → All (IsFile next) files → sum_by entries_by files ≡ length (entries_in files)
all_counted next [] each = refl
all_counted next (file ∷ files) each =
    let here = counted next file (All-head (IsFile next) file files each) in
    let rest = all_counted next files (All-tail (IsFile next) file files each) in
    omega (arith, sum_by-cons entries_by file files, here, rest, length-append (entries_of (file_of file)) (entries_in files))

-- a header has a tile, which has a page
pub some_line : (header : Header) → headers.HasSpelling header → 0 < length (lines_of header.tiles)
some_line header spelled = by header.tiles spelled.some (are_tiles header.tiles spelled.tiles)
  where
    by : (tiles : List TileLine) → 0 < length tiles → All headers.IsTile tiles → 0 < length (lines_of tiles)
    by [] some each = absurd (omega (arith, some))
    by (tile ∷ tiles) some each = omega (arith, (All-head headers.IsTile tile tiles each).some, length-append tile.pages (lines_of tiles))

-- each page that agrees with its line has an entry
some_entries : (lines : List PageLine) (pages : List (List ℕ)) → AllZip Agrees lines pages → length pages ≤ length (flat_map agreement.entries_in pages)
some_entries [] [] agrees = omega arith
some_entries [] (page ∷ rest) agrees = absurd agrees
some_entries (line ∷ lines) [] agrees = absurd agrees
some_entries (line ∷ lines) (page ∷ rest) agrees =
    omega (arith, agrees.0.page.spelled.some, some_entries lines rest agrees.1, length-append (agreement.entries_in page) (flat_map agreement.entries_in rest))

-- a file has an entry
pub some_counted : (next : ℕ) (file : StoredFile) → IsFile next file → 1 ≤ entries_by file
some_counted next file is =
    let lines = some_line file.header is.spelled in
    let same = as_many (lines_of file.header.tiles) file.pages is.agrees.pages in
    omega (arith, lines, same, some_entries (lines_of file.header.tiles) file.pages is.agrees.pages, ap length (entries_are file.header.tiles file.pages same), counted next file is)

-- Entries that are woven into tiles

abbrev in_tile : Tile → List Entry
in_tile tile = flat_map (λ page. page) tile.pages

tiles_long : (page : ℕ) (slices : List (List Entry)) (tiles : List Tile) → AllZip (IsTile page) slices tiles → length (flat_map in_tile tiles) ≡ length (joined slices)
tiles_long page [] [] zipped = refl
tiles_long page [] (tile ∷ tiles) zipped = absurd zipped
tiles_long page (slice ∷ slices) [] zipped = absurd zipped
tiles_long page (slice ∷ slices) (tile ∷ tiles) zipped =
    omega (arith, tile_long page slice tile zipped.0, tiles_long page slices tiles zipped.1, length-append (in_tile tile) (flat_map in_tile tiles), length-append slice (joined slices))

pub woven_long : (fields : Fields) (entries : List Entry) (tiles : List Tile) → IsWoven fields entries tiles → length (flat_map in_tile tiles) ≡ length entries
woven_long fields entries tiles is = tiles_long fields.page is.slices tiles is.each ∙ ap length is.consecutive

in_tiles : (files : List StoredFile) → entries_in files ≡ flat_map in_tile (joined (map (λ (file : File). file.tiles) (map file_of files)))
in_tiles [] = refl
in_tiles (file ∷ files) = ap (λ rest. entries_of (file_of file) ++ rest) (in_tiles files) ∙ sym (flat_map-append in_tile (file_of file).tiles (joined (map (λ (file : File). file.tiles) (map file_of files))))

-- files that are cut of some entries have as many
pub cut_long : (fields : Fields) (entries : List Entry) (files : List StoredFile) → AreCutOf fields entries (map file_of files) → length (entries_in files) ≡ length entries
cut_long fields entries files cut = ap length (in_tiles files) ∙ woven_long fields entries (joined (map (λ (file : File). file.tiles) (map file_of files))) cut.woven
