-- The file of a sweep's draft is what the erase leaves of a stored one.
use Rattle.std.proofs.Common.{◌≡◌, inl, inr, ℕ, ◌<◌, ◌≤◌, Bool, List, [], ◌∷◌, Some, length, map, All, AllPairs, Contains, append-nil, refl, sym, ap, ◌∙◌, subst, arith}
use Rattle.std.specs.Prelude.{filter_map, flat_map}
use Rattle.std.specs.List.{AllZip}
use Rattle.std.proofs.lemmas.List.Elements.{All-cons, All-contains, All-nil}
use Rattle.std.proofs.lemmas.Option.{slice_get-get_or}
use Rattle.lethe_base.proofs.LayoutLaws.{none_in}
use Rattle.lethe_base.proofs.Newest.{first_or_rest}
use Rattle.lethe_base.specs.Layout.{entries_of}
use Rattle.lethe_base.specs.declared.entry.Entry.{Entry}
use Rattle.lethe_base.specs.declared.pending.Pending.{Pending}
use Rattle.lethe_build.specs.Drafts.{header_of}
use Rattle.lethe_cover.proofs.Lists.{Pairs, all_from, flat_in, pairs_from, pairs_parts, pairs_to}
use Rattle.lethe_file.specs.Agreement.{FileAgrees, entries_in, page_name}
use Rattle.lethe_sweeps.specs.Merged as follows
use Rattle.lethe_sweeps.specs.Merged.{range_of}
use Rattle.lethe_header.specs.Headers.{HasSpelling}
use Rattle.lethe_header.specs.declared.header.PageLine.{PageLine}
use Rattle.lethe_moves.specs.Files.{IsWithin}
use Rattle.lethe_stored.proofs.FileFacts.{as_many, entries_are}
use Rattle.lethe_stored.proofs.Parts.{object_part}
use Rattle.lethe_stored.specs.Files.{IsFile, StoredFile, file_of, lines_in, objects_in}
use Rattle.lethe_stored.specs.Stored.{IsCoherent, Stored, part_names}
use Rattle.lethe_sweep.specs.Sweeping.{IsSweep, IsSweptBy}
use Rattle.lethe_swept.specs.Drafts.{IsDraftOf, IsLineFor, IsTileFor, new_line, tiles_with}
use Rattle.lethe_swept.specs.Left.{bytes_left, entries_left, parts_in, places_in}
use Rattle.lethe_swept.specs.declared.draft.DraftLine.{DraftLine}
use Rattle.lethe_swept.specs.declared.draft.SweptDraft.{SweptDraft}
use Rattle.lethe_swept.specs.declared.part.Part.{Part}
use Rattle.lethe_swept.specs.declared.part.SweptFile.{SweptFile}
use Rattle.lethe_swept.specs.declared.part.SweptTile.{SweptTile}
use Rattle.lethe_sweeps.specs.Swept.{AreLeft, IsOwnOrNew}
use Rattle.lethe_tile.specs.Woven.{joined}
use Rattle.lethe_remade.specs.Remade.{remade}
use Rattle.lethe_remade.proofs.Bounds.{made_inside}
use Rattle.lethe_remade.proofs.Entries.{file_entries, left_read}
use Rattle.lethe_remade.proofs.Lines.{AreApart, Differ, IsFrom, drafted, from, is_there, lines_apart, lines_flat, new_flat, parts_flat}
use Rattle.lethe_remade.proofs.Objects.{own_object}
use Rattle.lethe_remade.proofs.Places.{places_rise}

one_of_pairs : {X Y : Type 0} (R : Y → Y → Type 0) (f : X → List Y) (xs : List X) (x : X) → Contains xs x → Pairs R (flat_map f xs) → Pairs R (f x)
one_of_pairs R f [] x there pairs = absurd (none_in x there)
one_of_pairs R f (first ∷ xs) x there pairs =
    let parts = pairs_parts R (f first) (flat_map f xs) pairs in
    elim (first_or_rest first xs x there) [
      | inl same ↦ subst (λ y. Pairs R (f y)) same parts.0
      | inr rest ↦ one_of_pairs R f xs x rest parts.1
    ]

-- A file that is stored

module _ (s : Stored) (coherent : IsCoherent s) (file : StoredFile) (there : Contains s.files file) where
  pub is_file : IsFile s.manifest.next file
  is_file = All-contains (IsFile s.manifest.next) s.files file coherent.each there

  pub paged : length file.pages ≡ length (lines_in file)
  paged = as_many (lines_in file) file.pages is_file.agrees.pages

  line_cited : (line : PageLine) → Contains (lines_in file) line → Contains (part_names s) (page_name line.no)
  line_cited line inside =
      let at = slice_get-get_or (lines_in file) inside.0 line inside.1 ∙ ap Some inside.2 in
      let object = own_object file paged inside.0 line at in
      object_part s _ (flat_in objects_in s.files file _ there object)

  own_apart : AllPairs AreApart (lines_in file)
  own_apart = pairs_to AreApart (lines_in file) (one_of_pairs AreApart lines_in s.files file there (pairs_from AreApart (flat_map lines_in s.files) coherent.pages_once))

  pub nothing_left : (erase : Pending) (alone : Bool) (swept : SweptFile)
      → IsSweep alone erase (joined (map entries_in file.pages)) (entries_left (map entries_in file.pages) swept) → swept.tiles ≡ []
      → (number : ℕ) → AreLeft s file erase alone number []
  nothing_left erase alone swept sweep none number =
      let pages = map entries_in file.pages in
      let empty : entries_left pages swept ≡ [] = ap (λ (tiles : List SweptTile). entries_left pages (record { tiles = tiles })) none in
      record {
        each = All-nil (IsFile number);
        level = All-nil (λ (left : StoredFile). left.level ≡ file.level);
        swept = All-nil (λ (left : StoredFile). left.swept ≡ erase.seq);
        headers = All-nil (λ (left : StoredFile). (s.manifest.next ≤ left.header.no) × (left.header.no < number));
        lo = All-nil (λ (left : StoredFile). IsWithin (range_of file).lo (range_of file).hi (range_of left).lo);
        hi = All-nil (λ (left : StoredFile). IsWithin (range_of file).lo (range_of file).hi (range_of left).hi);
        lines = All-nil (IsOwnOrNew s file);
        lines_once = pairs_to AreApart [] tt;
        from = λ output inside. absurd (none_in output inside);
        kept = λ entry output inside at.
            let left = sweep.kept entry output (subst (λ (es : List Entry). Contains es entry) (file_entries file paged) inside) at in
            absurd (none_in output (subst (λ (es : List Entry). Contains es output) empty left));
      }

  -- The file that is made

  module _ (erase : Pending) (alone : Bool) (swept : SweptFile) (is : IsSweptBy alone erase file.header.tiles (map entries_in file.pages) swept)
      (draft : SweptDraft) (of : IsDraftOf file.header.tiles swept draft) (numbers : List ℕ) (no number : ℕ)
      (count : length numbers ≡ length draft.pages) (differ : AllPairs Differ numbers)
      (new : All (λ page. (page < number) × (Contains (part_names s) (page_name page) → ⊥)) numbers) (next : s.manifest.next ≤ no) (less : no < number)
      (has_spelling : HasSpelling (header_of no (tiles_with numbers draft.tiles))) where
    abbrev made : StoredFile
    made = remade file erase swept draft numbers no

    abbrev parts : List Part
    parts = parts_in swept

    abbrev drafts : List DraftLine
    drafts = drafted draft.tiles

    each : AllZip (IsLineFor (lines_in file)) parts drafts
    each = parts_flat (lines_in file) swept.tiles draft.tiles of.each

    few : length numbers ≡ length (filter_map new_line drafts)
    few = let paged = of.is.paged in omega (arith, count, paged, ap length (new_flat draft.tiles))

    is_new : (page : ℕ) → Contains numbers page → (page < number) × (Contains (part_names s) (page_name page) → ⊥)
    is_new page inside = All-contains (λ page. (page < number) × (Contains (part_names s) (page_name page) → ⊥)) numbers page new inside

    line_from : (line : PageLine) → Contains (lines_in made) line → IsFrom (lines_in file) (places_in swept) numbers line
    line_from line inside =
        from (lines_in file) numbers parts drafts each few line (subst (λ (lines : List PageLine). Contains lines line) (lines_flat numbers draft.tiles) inside)

    line_below : (line : PageLine) → Contains (lines_in made) line → line.no < number
    line_below line inside = elim (line_from line inside) [
      | inl own ↦
          let low = All-contains (λ (line : PageLine). line.no < s.manifest.next) (lines_in file) line is_file.below (is_there (lines_in file) own.0 line own.2) in
          omega (arith, low, next, less)
      | inr page ↦ (is_new line.no page).0
    ]

    own_or_new : (line : PageLine) → Contains (lines_in made) line → IsOwnOrNew s file line
    own_or_new line inside = elim (line_from line inside) [
      | inl own ↦ inl (line, is_there (lines_in file) own.0 line own.2, refl)
      | inr page ↦ inr (is_new line.no page).1
    ]

    once : Pairs AreApart (lines_in made)
    once = subst (Pairs AreApart) (sym (lines_flat numbers draft.tiles))
        (lines_apart (lines_in file) own_apart (λ page. Contains (part_names s) (page_name page)) line_cited numbers parts drafts each few
        (places_rise alone erase (map entries_in file.pages) file.header.tiles swept is) (pairs_from Differ numbers differ) (λ page inside. (is_new page inside).1))

    one_file : flat_map lines_in (made ∷ []) ≡ lines_in made
    one_file = append-nil (lines_in made)

    inside : IsWithin (range_of file).lo (range_of file).hi (range_of made).lo × IsWithin (range_of file).lo (range_of file).hi (range_of made).hi
    inside = made_inside file made is_file.spelled has_spelling is.parts draft.tiles numbers (lines_in file)
        (subst (λ (tiles : List SweptTile). AllZip (IsTileFor (lines_in file)) tiles draft.tiles) is.tiles_are of.each) refl

    module _ (agrees : FileAgrees (tiles_with numbers draft.tiles) (bytes_left file.pages swept)) where
      made_entries : follows.entries_in (made ∷ []) ≡ entries_left (map entries_in file.pages) swept
      made_entries =
          append-nil (entries_of (file_of made))
          ∙ entries_are made.header.tiles made.pages (as_many (lines_in made) made.pages agrees.pages)
          ∙ left_read (lines_in file) file.pages paged parts drafts each (ap (map entries_in) (sym of.pages) ∙ of.entries)

      made_file : IsFile number made
      made_file = record { spelled = has_spelling; agrees = agrees; below = all_from (λ (line : PageLine). line.no < number) (lines_in made) line_below }

      pub is_left : IsSweep alone erase (joined (map entries_in file.pages)) (entries_left (map entries_in file.pages) swept) → AreLeft s file erase alone number (made ∷ [])
      is_left sweep = record {
        each = one (IsFile number) made_file;
        level = one (λ (left : StoredFile). left.level ≡ file.level) refl;
        swept = one (λ (left : StoredFile). left.swept ≡ erase.seq) refl;
        headers = one (λ (left : StoredFile). (s.manifest.next ≤ left.header.no) × (left.header.no < number)) (next, less);
        lo = one (λ (left : StoredFile). IsWithin (range_of file).lo (range_of file).hi (range_of left).lo) inside.0;
        hi = one (λ (left : StoredFile). IsWithin (range_of file).lo (range_of file).hi (range_of left).hi) inside.1;
        lines = subst (All (IsOwnOrNew s file)) (sym one_file) (all_from (IsOwnOrNew s file) (lines_in made) own_or_new);
        lines_once = pairs_to AreApart (flat_map lines_in (made ∷ [])) (subst (Pairs AreApart) (sym one_file) once);
        from = λ output there.
            let found = sweep.from output (subst (λ (es : List Entry). Contains es output) made_entries there) in
            (found.0, subst (λ (es : List Entry). Contains es found.0) (sym (file_entries file paged)) found.1, found.2);
        kept = λ entry output there at.
            let left = sweep.kept entry output (subst (λ (es : List Entry). Contains es entry) (file_entries file paged) there) at in
            subst (λ (es : List Entry). Contains es output) (sym made_entries) left;
      }
        where
          one : (P : StoredFile → Type 0) → P made → All P (made ∷ [])
          one P holds = All-cons P made [] holds (All-nil P)
