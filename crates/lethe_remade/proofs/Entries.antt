-- The entries of a file, and of the file that is made of what a sweep leaves of it.
use Rattle.std.proofs.Common.{◌≡◌, ℕ, ◌<◌, List, [], ◌∷◌, ◌++◌, Some, length, map, get_or, slice_get, refl, sym, ◌∙◌, arith}
use Rattle.std.specs.Prelude.{filter_map, flat_map}
use Rattle.std.specs.List.{AllZip}
use Rattle.std.proofs.lemmas.List.{get_or-map}
use Rattle.std.proofs.lemmas.List.Folds.{flat_map-map}
use Rattle.std.proofs.lemmas.Option.{slice_get_within}
use Rattle.lethe_base.specs.Layout.{entries_of}
use Rattle.lethe_base.specs.declared.entry.Entry.{Entry}
use Rattle.lethe_build.specs.Built.{spelled}
use Rattle.lethe_file.specs.Agreement.{entries_in}
use Rattle.lethe_header.specs.declared.header.PageLine.{PageLine}
use Rattle.lethe_stored.proofs.FileFacts.{entries_are}
use Rattle.lethe_stored.specs.Files.{StoredFile, file_of, lines_in}
use Rattle.lethe_swept.specs.Drafts.{IsLineFor}
use Rattle.lethe_swept.specs.Left.{bytes_with, entries_with, fresh_of}
use Rattle.lethe_swept.specs.declared.draft.DraftLine.{DraftLine}
use Rattle.lethe_swept.specs.declared.draft.DraftLine.TheVariants.{Own, New}
use Rattle.lethe_swept.specs.declared.part.Part.{Part}
use Rattle.lethe_swept.specs.declared.part.Part.TheVariants.{Kept, Fresh}
use Rattle.lethe_tile.specs.Woven.{joined}

pub file_entries : (file : StoredFile) → length file.pages ≡ length (lines_in file) → entries_of (file_of file) ≡ joined (map entries_in file.pages)
file_entries file long = entries_are file.header.tiles file.pages long ∙ sym (flat_map-map (λ (page : List Entry). page) entries_in file.pages)

-- the pages that are left spell the entries that are left, where what new pages spell is read back
module _ (lines : List PageLine) (bytes : List (List ℕ)) (long : length bytes ≡ length lines) where
  kept_read : (place : ℕ) (line : PageLine) → slice_get lines place ≡ Some line → entries_in (get_or bytes place []) ≡ get_or (map entries_in bytes) place []
  kept_read place line is =
      let within = slice_get_within lines place line is in
      let inside : place < length bytes = omega (arith, within, long) in
      sym (get_or-map entries_in bytes place [] [] inside)

  pub left_read : (parts : List Part) (drafts : List DraftLine) → AllZip (IsLineFor lines) parts drafts
      → map entries_in (map spelled (filter_map fresh_of parts)) ≡ filter_map fresh_of parts
      → flat_map entries_in (map (bytes_with bytes) parts) ≡ flat_map (entries_with (map entries_in bytes)) parts
  left_read [] [] zip read = refl
  left_read [] (draft ∷ drafts) zip read = absurd zip
  left_read (part ∷ parts) [] zip read = absurd zip
  left_read (Kept place ∷ parts) (Own line ∷ drafts) zip read =
      let here = kept_read place line zip.0 in
      let rest = left_read parts drafts zip.1 read in
      λ i. here i ++ rest i
  left_read (Kept place ∷ parts) (New line ∷ drafts) zip read = absurd zip.0
  left_read (Fresh entries ∷ parts) (Own line ∷ drafts) zip read = absurd zip.0
  left_read (Fresh entries ∷ parts) (New line ∷ drafts) zip read =
      let here : entries_in (spelled entries) ≡ entries = cc in
      let behind : map entries_in (map spelled (filter_map fresh_of parts)) ≡ filter_map fresh_of parts = cc in
      let rest = left_read parts drafts zip.1 behind in
      λ i. here i ++ rest i
