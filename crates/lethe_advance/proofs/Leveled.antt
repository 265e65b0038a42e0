-- The files by level, behind a step.
use Rattle.std.proofs.Common.{◌≡◌, ◌+◌, ◌<◌, ℕ, Bool, List, [], ◌++◌, map, length, get_or, sym, ◌∙◌, ap, subst, arith}
use Rattle.std.specs.Prelude.{filter, ◌==◌}
use Rattle.std.specs.List.Sorted.{IsPermutation}
use Rattle.std.proofs.lemmas.List.{map-append}
use Rattle.std.proofs.lemmas.List.Elements.{filter-append}
use Rattle.std.proofs.lemmas.List.Sorted.{IsPermutation-sym, IsPermutation-trans, IsPermutation-map, IsPermutation-append_right, IsPermutation-append_comm}
use Rattle.std.proofs.lemmas.Simd.{map-map}
use Rattle.lethe_base.specs.declared.name.Name.{Name}
use Rattle.lethe_stored.specs.Files.{StoredFile, Parts, parts_of}
use Rattle.lethe_stored.specs.Levels.{HasFiles}
use Rattle.lethe_stored.specs.Stored.{Stored}
use Rattle.lethe_version.specs.Order.{is_kept}
use Rattle.lethe_advance.specs.declared.new_header.NewHeader.{NewHeader}
use Rattle.lethe_advance.specs.declared.step.Step.{Step}
use Rattle.lethe_advance.specs.Shown.{AreLevelsWith, NewParts, in_level, parts_without}
use Rattle.lethe_advance.specs.Steps.{IsStep, kept_files}
use Rattle.lethe_advance.proofs.Lists.{filter-permuted, filter-filter, map-filter}
use Rattle.lethe_advance.proofs.Opened.{new_stored}

module _ (s t : Stored) (loose left : List (Name × List ℕ)) (headers : List NewHeader) (step : Step) (is : IsStep s loose t left headers step) where
  abbrev at : ℕ → List StoredFile → List StoredFile
  at level files = filter (λ file. file.level == level) files

  abbrev kept : StoredFile → Bool
  kept file = is_kept step.merged.items file.header

  -- the files of a level are those added in it, and those that were there and don't go
  level_is : (level : ℕ) → IsPermutation (map parts_of (at level t.files)) (map parts_of (at level is.added) ++ parts_without step.merged.items (map parts_of (at level s.files)))
  level_is level =
      let all = is.added ++ kept_files s step in
      let others : map parts_of (at level (kept_files s step)) ≡ parts_without step.merged.items (map parts_of (at level s.files)) =
      ap (map parts_of) (filter-filter (λ (file : StoredFile). file.level == level) kept s.files) ∙ map-filter parts_of (λ (file : Parts). is_kept step.merged.items file.header) (at level s.files) in
      let split : map parts_of (at level all) ≡ map parts_of (at level is.added) ++ parts_without step.merged.items (map parts_of (at level s.files)) =
      ap (map parts_of) (filter-append (λ (file : StoredFile). file.level == level) is.added (kept_files s step)) ∙ map-append parts_of (at level is.added) (at level (kept_files s step)) ∙ ap (λ l. map parts_of (at level is.added) ++ l) others in
      subst (IsPermutation (map parts_of (at level t.files))) split
      (IsPermutation-map parts_of (at level t.files) (at level all) (IsPermutation-sym (at level all) (at level t.files) (filter-permuted (λ (file : StoredFile). file.level == level) all t.files is.files)))

  -- those that come into a level, as its readers have them
  come_are : (level : ℕ) → in_level level (map new_stored is.added) ≡ map parts_of (at level is.added)
  come_are level = sym (ap (map (λ (new : NewParts). new.parts)) (map-filter new_stored (λ (new : NewParts). new.level == level) is.added)) ∙ map-map (λ (new : NewParts). new.parts) new_stored (at level is.added)

  module _ (old new : List (List Parts)) (has : HasFiles s old) (made : AreLevelsWith step.merged.items (map new_stored is.added) old new) where
    abbrev stays : ℕ → List Parts
    stays level = parts_without step.merged.items (get_or old level [])

    kept_is : (level : ℕ) → level < length old → IsPermutation (parts_without step.merged.items (map parts_of (at level s.files))) (stays level)
    kept_is level lt = filter-permuted (λ (file : Parts). is_kept step.merged.items file.header) (map parts_of (at level s.files)) (get_or old level []) (has.each level lt)

    both : (level : ℕ) → level < length old → IsPermutation (map parts_of (at level t.files)) (map parts_of (at level is.added) ++ stays level)
    both level lt = IsPermutation-trans _ _ _ (level_is level) (IsPermutation-append_right (map parts_of (at level is.added)) _ _ (kept_is level lt))

    level_next : (level : ℕ) → level < length old → IsPermutation (map parts_of (at level t.files)) (get_or new level [])
    level_next level lt =
        let there = subst (λ l. IsPermutation (stays level ++ l) (get_or new level [])) (come_are level) (made.each level lt) in
        IsPermutation-trans _ _ _ (both level lt) (IsPermutation-trans _ _ _ (IsPermutation-append_comm (map parts_of (at level is.added)) (stays level)) there)

    pub files_next : HasFiles t new
    files_next = record {
      count = made.count ∙ has.count ∙ ap (λ n. n + 1) (sym (ap (λ config. config.levels) is.config));
      each = λ level lt. level_next level (let same = made.count in omega (arith, same, lt));
    }
