-- What is promised of the parts of a sweep's file, on any disk.
use Rattle.std.proofs.Common.{◌≡◌, ◌≤◌, ◌+◌, ◌-◌, inl, inr, ℕ, List, length, length-drop, map, drop, All, Contains, Option, Some, None, refl, sym, ap, ◌∙◌, subst, arith}
use Rattle.std.specs.Prelude.{zip}
use Rattle.std.specs.List.{range_with_len}
use Rattle.std.proofs.lemmas.List.{length-map}
use Rattle.std.proofs.lemmas.List.FromFn.{length-range_with_len}
use Rattle.sha2.proofs.Facts256.{length-sha256}
use Rattle.lethe_advance.specs.Object.{Object}
use Rattle.lethe_advance.specs.declared.new_header.NewHeader.{NewHeader}
use Rattle.lethe_base.specs.Limits.{max_place}
use Rattle.lethe_base.specs.declared.name.Name.{Name}
use Rattle.lethe_cover.proofs.Common.{first_or_rest}
use Rattle.lethe_cover.proofs.Lists.{all_from, in_map, map_from}
use Rattle.lethe_file.specs.Agreement.{page_name}
use Rattle.lethe_flush.specs.Made.{named_of}
use Rattle.lethe_flush.specs.declared.made.MadeFiles.{MadeFiles}
use Rattle.lethe_flush.proofs.Numbers.{no_of, numbers_zip, range_from}
use Rattle.lethe_header.specs.Headers as headers
use Rattle.lethe_header.specs.Headers.{header_bytes}
use Rattle.lethe_manifest.specs.Manifests.{IsFile}
use Rattle.lethe_manifest.specs.declared.manifest.Cited.{Cited}
use Rattle.lethe_remade.specs.Making.{AreMadeOf, IsMadeOf, count_unwritten, header_by}
use Rattle.lethe_state.proofs.Shared.{none_all, one_all}
use Rattle.lethe_stored.proofs.Lists.{zip_left}
use Rattle.lethe_sweep_task.specs.Drafted.{new_pages, numbers_of}
use Rattle.lethe_swept.specs.declared.draft.SweptDraft.{SweptDraft}

module _ (level upto : ℕ) (written : List Name) (first : ℕ) where
  module _ (draft : SweptDraft) (made : MadeFiles) (few : length written ≤ length draft.pages) (are : IsMadeOf level upto written first draft made) where
    abbrev count : ℕ
    count = length draft.pages - length written

    abbrev fresh : List ℕ
    fresh = range_with_len first count

    abbrev rest : List (List ℕ)
    rest = drop (length written) draft.pages

    abbrev more : List (Name × List ℕ)
    more = zip (map page_name fresh) rest

    more_count : length more ≡ count
    more_count =
        let fits : length rest ≡ length fresh = omega (arith, length-drop (length written) draft.pages, length-range_with_len first count) in
        sym (length-map more no_of) ∙ ap length (numbers_zip fresh rest fits) ∙ length-range_with_len first count

    some_count : length made.objects.items ≡ length draft.pages + 1 - length written
    some_count =
        let all = sym (length-map made.objects.items named_of) ∙ ap length are.objects in
        omega (arith, all, more_count, few)

  pub parts_count : (draft : Option SweptDraft) (made : MadeFiles) → length written ≤ length (new_pages draft) → AreMadeOf level upto written first draft made
      → length made.objects.items ≡ numbers_of draft - length written
  parts_count None made few are = let none = ap length are.objects in omega (arith, none)
  parts_count (Some draft) made few are = some_count draft made few are

  pub parts_next : (draft : Option SweptDraft) (made : MadeFiles) → length written ≤ length (new_pages draft) → AreMadeOf level upto written first draft made
      → made.next ≡ first + (numbers_of draft - length written)
  parts_next None made few are = let next = are.next in omega (arith, next)
  parts_next (Some draft) made few are = let next = are.next in omega (arith, next, few)

  pub parts_spelled : (draft : Option SweptDraft) (made : MadeFiles) → AreMadeOf level upto written first draft made
      → All (λ new. headers.HasSpelling new.header) made.headers.items
  parts_spelled None made are = none_all (λ (new : NewHeader). headers.HasSpelling new.header) made.headers.items are.headers
  parts_spelled (Some draft) made are =
      one_all (λ (new : NewHeader). headers.HasSpelling new.header) (record { level = level; header = header_by written first draft }) made.headers.items are.headers are.spelled

  pub parts_level : (draft : Option SweptDraft) (made : MadeFiles) → AreMadeOf level upto written first draft made → All (λ new. new.level ≡ level) made.headers.items
  parts_level None made are = none_all (λ (new : NewHeader). new.level ≡ level) made.headers.items are.headers
  parts_level (Some draft) made are =
      one_all (λ (new : NewHeader). new.level ≡ level) (record { level = level; header = header_by written first draft }) made.headers.items are.headers refl

  pub cited_level : (draft : Option SweptDraft) (made : MadeFiles) → AreMadeOf level upto written first draft made → All (λ file. file.level ≡ level) made.cited.items
  cited_level None made are = none_all (λ (file : Cited). file.level ≡ level) made.cited.items are.cited
  cited_level (Some draft) made are = one_all (λ (file : Cited). file.level ≡ level) _ made.cited.items are.cited refl

  pub cited_spelled : upto ≤ max_place → (levels : ℕ) → level ≤ levels → (draft : Option SweptDraft) (made : MadeFiles)
      → AreMadeOf level upto written first draft made → All (IsFile made.next levels) made.cited.items
  cited_spelled low levels fits None made are = none_all (IsFile made.next levels) made.cited.items are.cited
  cited_spelled low levels fits (Some draft) made are =
      let next = are.next in
      one_all (IsFile made.next levels) _ made.cited.items are.cited
      (record { level = fits; no = omega (arith, next); swept = low; digest = length-sha256 (header_bytes (header_by written first draft)) })

  -- each object has a number from the first on
  pub parts_fresh : (draft : Option SweptDraft) (made : MadeFiles) → AreMadeOf level upto written first draft made → All (λ object. first ≤ object.name.no) made.objects.items
  parts_fresh None made are = none_all (λ (object : Object). first ≤ object.name.no) made.objects.items are.objects
  parts_fresh (Some draft) made are = all_from (λ (object : Object). first ≤ object.name.no) made.objects.items (λ object there.
      elim (first_or_rest _ _ (named_of object) (subst (λ l. Contains l (named_of object)) are.objects (in_map named_of made.objects.items object there))) [
        | inl header ↦ let same = ap no_of header in omega (arith, same)
        | inr page ↦
            let numbers = range_with_len first (count_unwritten written draft) in
            let found = map_from page_name numbers object.name (zip_left (map page_name numbers) (drop (length written) draft.pages) (named_of object) page) in
            let low = (range_from first (count_unwritten written draft) found.0 found.1).0 in
            let same = ap (λ (name : Name). name.no) found.2 in
            omega (arith, low, same)
      ])
