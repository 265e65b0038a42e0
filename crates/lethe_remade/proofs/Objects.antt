-- The objects of a file, and of the file that is made of what a sweep leaves of it.
use Rattle.std.proofs.Common.{◌≡◌, ◌⊎◌, inl, inr, ℕ, zero, suc, List, [], ◌∷◌, Some, length, map, zip, get_or, slice_get, All, Contains, refl, sym, ap, subst, arith}
use Rattle.std.specs.Prelude.{filter_map}
use Rattle.std.specs.List.{AllZip}
use Rattle.std.proofs.lemmas.List.{length-map}
use Rattle.std.proofs.lemmas.List.Elements.{All-cons, All-nil, All-weaker}
use Rattle.lethe_base.proofs.Newest.{first_is}
use Rattle.lethe_base.specs.declared.name.Name.{Name}
use Rattle.lethe_base.specs.declared.pending.Pending.{Pending}
use Rattle.lethe_build.specs.Built.{spelled}
use Rattle.lethe_build.specs.Drafts.{header_of}
use Rattle.lethe_cover.proofs.Lists.{in_map, in_rest}
use Rattle.lethe_file.specs.Agreement.{page_name}
use Rattle.lethe_header.specs.Headers.{header_bytes}
use Rattle.lethe_header.specs.declared.header.PageLine.{PageLine}
use Rattle.lethe_stored.specs.Files.{StoredFile, file_name, lines_in, objects_in}
use Rattle.lethe_swept.specs.Drafts.{IsDraftOf, IsLineFor, numbered, tiles_with}
use Rattle.lethe_swept.specs.Left.{bytes_left, bytes_with, fresh_in, fresh_of, parts_in}
use Rattle.lethe_swept.specs.declared.draft.DraftLine.{DraftLine}
use Rattle.lethe_swept.specs.declared.draft.DraftLine.TheVariants.{Own, New}
use Rattle.lethe_swept.specs.declared.draft.SweptDraft.{SweptDraft}
use Rattle.lethe_swept.specs.declared.part.Part.{Part}
use Rattle.lethe_swept.specs.declared.part.Part.TheVariants.{Kept, Fresh}
use Rattle.lethe_swept.specs.declared.part.SweptFile.{SweptFile}
use Rattle.lethe_remade.specs.Remade.{new_objects, remade}
use Rattle.lethe_remade.proofs.Lines.{drafted, lines_flat, parts_flat}

abbrev Named : Type 0
Named = Name × List ℕ

-- a page under its name
abbrev named_page : PageLine × List ℕ → Named
named_page page = (page_name page.0.no, page.1)

zip_at : (lines : List PageLine) (pages : List (List ℕ)) (place : ℕ) (line : PageLine) → length pages ≡ length lines → slice_get lines place ≡ Some line
    → Contains (zip lines pages) (line, get_or pages place [])
zip_at [] pages place line long is = absurd cc
zip_at (own ∷ lines) [] place line long is = absurd (omega (arith, long))
zip_at (own ∷ lines) (page ∷ pages) zero line long is = let same : own ≡ line = cc in first_is (own, page) (zip lines pages) (line, page) (λ i. (same i, page))
zip_at (own ∷ lines) (page ∷ pages) (suc place) line long is =
    in_rest (own, page) (zip lines pages) (line, get_or pages place []) (zip_at lines pages place line (omega (arith, long)) is)

module _ (file : StoredFile) (long : length file.pages ≡ length (lines_in file)) where
  pub own_object : (place : ℕ) (line : PageLine) → slice_get (lines_in file) place ≡ Some line → Contains (objects_in file) (page_name line.no, get_or file.pages place [])
  own_object place line is =
      let pages = zip (lines_in file) file.pages in
      let named : Named = (page_name line.no, get_or file.pages place []) in
      in_rest (file_name file.header.no, header_bytes file.header) (map named_page pages) named
      (in_map named_page pages (line, get_or file.pages place []) (zip_at (lines_in file) file.pages place line long is))

  -- it is one of the file's, or one of these
  abbrev IsOwnOr : List Named → Named → Type 0
  IsOwnOr new named = Contains (objects_in file) named ⊎ Contains new named

  one_more : (first : Named) (new : List Named) (named : Named) → IsOwnOr new named → IsOwnOr (first ∷ new) named
  one_more first new named (inl own) = inl own
  one_more first new named (inr there) = inr (in_rest first new named there)

  -- the new pages, under the names with these numbers
  abbrev written : List ℕ → List Part → List Named
  written numbers parts = zip (map page_name numbers) (map spelled (filter_map fresh_of parts))

  pages_from : (numbers : List ℕ) (parts : List Part) (drafts : List DraftLine) → AllZip (IsLineFor (lines_in file)) parts drafts
      → length numbers ≡ length (filter_map fresh_of parts)
      → All (IsOwnOr (written numbers parts)) (map named_page (zip (numbered numbers drafts) (map (bytes_with file.pages) parts)))
  pages_from numbers [] [] each count = All-nil (IsOwnOr (written numbers []))
  pages_from numbers [] (draft ∷ drafts) each count = absurd each
  pages_from numbers (part ∷ parts) [] each count = absurd each
  pages_from numbers (Kept place ∷ parts) (Own own ∷ drafts) each count =
      All-cons (IsOwnOr (written numbers parts)) (page_name own.no, get_or file.pages place []) (map named_page (zip (numbered numbers drafts) (map (bytes_with file.pages) parts)))
      (inl (own_object place own each.0)) (pages_from numbers parts drafts each.1 count)
  pages_from numbers (Kept place ∷ parts) (New own ∷ drafts) each count = absurd each.0
  pages_from numbers (Fresh entries ∷ parts) (Own own ∷ drafts) each count = absurd each.0
  pages_from [] (Fresh entries ∷ parts) (New own ∷ drafts) each count = absurd (omega (arith, count))
  pages_from (number ∷ numbers) (Fresh entries ∷ parts) (New own ∷ drafts) each count =
      let first : Named = (page_name number, spelled entries) in
      let new = written numbers parts in
      let rest = map named_page (zip (numbered numbers drafts) (map (bytes_with file.pages) parts)) in
      All-cons (IsOwnOr (first ∷ new)) first rest (inr (first_is first new first refl))
      (All-weaker (IsOwnOr new) (IsOwnOr (first ∷ new)) (one_more first new) rest (pages_from numbers parts drafts each.1 (omega (arith, count))))

  pub objects_from : (erase : Pending) (swept : SweptFile) (draft : SweptDraft) → IsDraftOf file.header.tiles swept draft → (numbers : List ℕ) (own : ℕ)
      → length numbers ≡ length draft.pages
      → All (IsOwnOr (new_objects draft numbers own)) (objects_in (remade file erase swept draft numbers own))
  objects_from erase swept draft of numbers own count =
      let parts = parts_in swept in
      let bytes = bytes_left file.pages swept in
      let new = zip (map page_name numbers) draft.pages in
      let few : length numbers ≡ length (fresh_in swept) = omega (arith, count, ap length of.pages, length-map (fresh_in swept) spelled) in
      let lines = numbered numbers (drafted draft.tiles) in
      let flat = pages_from numbers parts (drafted draft.tiles) (parts_flat (lines_in file) swept.tiles draft.tiles of.each) few in
      let pages : All (IsOwnOr new) (map named_page (zip (lines_in (remade file erase swept draft numbers own)) bytes)) =
      subst (λ (lines : List PageLine). All (IsOwnOr new) (map named_page (zip lines bytes))) (sym (lines_flat numbers draft.tiles))
      (subst (λ (spelling : List (List ℕ)). All (IsOwnOr (zip (map page_name numbers) spelling)) (map named_page (zip lines bytes))) (sym of.pages) flat) in
      let header : Named = (file_name own, header_bytes (header_of own (tiles_with numbers draft.tiles))) in
      let rest = map named_page (zip (lines_in (remade file erase swept draft numbers own)) bytes) in
      All-cons (IsOwnOr (header ∷ new)) header rest (inr (first_is header new header refl)) (All-weaker (IsOwnOr new) (IsOwnOr (header ∷ new)) (one_more header new) rest pages)
