-- Files that are put in lists by their levels.
use Rattle.std.proofs.Common.{◌≡◌, ℕ, zero, suc, ◌+◌, ◌<◌, ◌==◌, Bool, true, false, cond, List, [], ◌∷◌, ◌++◌, length, map, filter, get_or, inl, inr, refl, sym, ap, subst, ◌∙◌, arith}
use Rattle.std.specs.Prelude.{zip}
use Rattle.std.proofs.lemmas.Bool.{cases_eq, eq-eqb, ne_eqb}
use Rattle.std.specs.List.Sorted.{IsPermutation}
use Rattle.std.proofs.lemmas.List.{append-nil, length-map, map-append}
use Rattle.std.proofs.lemmas.List.Sorted.{IsPermutation-map}
use Rattle.std.proofs.lemmas.List.Elements.{filter-append}
use Rattle.lethe_manifest.specs.declared.manifest.Cited.{Cited}
use Rattle.lethe_stored.specs.Files.{StoredFile, Parts, parts_of, cited_of}
use Rattle.lethe_stored.specs.Levels.{HasFiles}
use Rattle.lethe_stored.specs.Stored.{Stored, IsCoherent}
use Rattle.lethe_recover.specs.Leveled.{files_at}

module _ {F : Type 0} where
  zip_none : (cited : List Cited) → zip cited (let none : List F = [] in none) ≡ []
  zip_none [] = refl
  zip_none (first ∷ cited) = refl

  -- one file more, which is cited at the next place
  zip_more : (cited : List Cited) (files : List F) (file : F) (d : Cited) → length files < length cited → zip cited (files ++ file ∷ []) ≡ zip cited files ++ (get_or cited (length files) d, file) ∷ []
  zip_more [] files file d lt = absurd (omega arith)
  zip_more (first ∷ cited) [] file d lt = ap (λ l. (first, file) ∷ l) (zip_none cited)
  zip_more (first ∷ cited) (other ∷ files) file d lt = ap (λ l. (first, other) ∷ l) (zip_more cited files file d (omega arith))

  abbrev is_at : ℕ → Cited × F → Bool
  is_at level pair = pair.0.level == level

  at_more : (level : ℕ) (cited : List Cited) (files : List F) (file : F) (d : Cited) → length files < length cited
      → files_at level cited (files ++ file ∷ []) ≡ files_at level cited files ++ map (λ (pair : Cited × F). pair.1) (filter (is_at level) ((get_or cited (length files) d, file) ∷ []))
  at_more level cited files file d lt =
      let next : Cited × F = (get_or cited (length files) d, file) in
      ap (λ l. map (λ (pair : Cited × F). pair.1) (filter (is_at level) l)) (zip_more cited files file d lt)
      ∙ ap (map (λ (pair : Cited × F). pair.1)) (filter-append (is_at level) (zip cited files) (next ∷ []))
      ∙ map-append (λ (pair : Cited × F). pair.1) (filter (is_at level) (zip cited files)) (filter (is_at level) (next ∷ []))

  -- it comes in the list of its level, and in no other
  pub more_there : (level : ℕ) (cited : List Cited) (files : List F) (file : F) (d : Cited) → length files < length cited → ((get_or cited (length files) d).level == level) ≡ true
      → files_at level cited (files ++ file ∷ []) ≡ files_at level cited files ++ file ∷ []
  more_there level cited files file d lt is =
      at_more level cited files file d lt ∙ ap (λ b. files_at level cited files ++ map (λ (pair : Cited × F). pair.1) (cond b ((get_or cited (length files) d, file) ∷ []) [])) is

  pub more_elsewhere : (level : ℕ) (cited : List Cited) (files : List F) (file : F) (d : Cited) → length files < length cited → ((get_or cited (length files) d).level == level) ≡ false
      → files_at level cited (files ++ file ∷ []) ≡ files_at level cited files
  more_elsewhere level cited files file d lt is =
      at_more level cited files file d lt ∙ ap (λ b. files_at level cited files ++ map (λ (pair : Cited × F). pair.1) (cond b ((get_or cited (length files) d, file) ∷ []) [])) is ∙ append-nil (files_at level cited files)

  -- no file yet
  pub none_at : (level : ℕ) (cited : List Cited) → files_at level cited (let none : List F = [] in none) ≡ []
  none_at level cited = ap (λ l. map (λ (pair : Cited × F). pair.1) (filter (is_at level) l)) (zip_none cited)

  -- those of a level are what is stored there
  pub parts_at : (level : ℕ) (p : F → Parts) (stored : List StoredFile) (files : List F) → map p files ≡ map parts_of stored → map p (files_at level (map cited_of stored) files) ≡ map parts_of (filter (λ file. file.level == level) stored)
  parts_at level p [] files same = refl
  parts_at level p (first ∷ stored) [] same = absurd cc
  parts_at level p (first ∷ stored) (file ∷ files) same = by (first.level == level) (parts_at level p stored files (let behind : map p files ≡ map parts_of stored = cc in behind))
    where
      here : p file ≡ parts_of first
      here = cc

      by : (b : Bool) → map p (files_at level (map cited_of stored) files) ≡ map parts_of (filter (λ file. file.level == level) stored)
          → map p (map (λ (pair : Cited × F). pair.1) (cond b ((cited_of first, file) ∷ filter (is_at level) (zip (map cited_of stored) files)) (filter (is_at level) (zip (map cited_of stored) files))))
          ≡ map parts_of (cond b (first ∷ filter (λ file. file.level == level) stored) (filter (λ file. file.level == level) stored))
      by true rest = λ i. here i ∷ rest i
      by false rest = rest

  -- a file comes in the list of its level and in no other
  pub step_at : (cited : List Cited) (files : List F) (file : F) (d : Cited) (old new : ℕ → List F) (level : ℕ) → length files < length cited → ((other : ℕ) → (other ≡ level → ⊥) → new other ≡ old other) → new level ≡ old level ++ file ∷ []
      → level ≡ (get_or cited (length files) d).level → (other : ℕ) → old other ≡ files_at other cited files → new other ≡ files_at other cited (files ++ file ∷ [])
  step_at cited files file d old new level lt elsewhere there own other so_far = elim (cases_eq other level) [
    | inl same ↦ ap new same ∙ there ∙ ap (λ k. old k ++ file ∷ []) (sym same) ∙ ap (λ l. l ++ file ∷ []) so_far
        ∙ sym (more_there other cited files file d lt (eq-eqb (get_or cited (length files) d).level other (sym own ∙ sym same)))
    | inr ne ↦ elsewhere other ne ∙ so_far ∙ sym (more_elsewhere other cited files file d lt (ne_eqb (get_or cited (length files) d).level other (λ k. ne (sym k ∙ sym own))))
  ]

  at_map : (p : F → Parts) (levels : List (List F)) (level : ℕ) → get_or (map (map p) levels) level [] ≡ map p (get_or levels level [])
  at_map p [] level = refl
  at_map p (files ∷ levels) zero = refl
  at_map p (files ∷ levels) (suc level) = at_map p levels level

  pub has_files : (p : F → Parts) (s : Stored) (cited : List Cited) (files : List F) (lists : ℕ → List F) (levels : List (List F)) → IsCoherent s → map p files ≡ map parts_of s.files → cited ≡ s.manifest.files
      → length levels ≡ s.manifest.config.levels + 1 → ((level : ℕ) → level < length levels → lists level ≡ files_at level cited files) → ((level : ℕ) → level < length levels → IsPermutation (lists level) (get_or levels level []))
      → HasFiles s (map (map p) levels)
  has_files p s cited files lists levels coherent loaded cited_is count listed permuted = record {
    count = long ∙ count;
    each = λ level lt.
        let within : level < length levels = omega (arith, lt, long) in
        let all : map p (lists level) ≡ map parts_of (filter (λ file. file.level == level) s.files) =
        ap (map p) (listed level within ∙ ap (λ l. files_at level l files) (cited_is ∙ coherent.files)) ∙ parts_at level p s.files files loaded in
        subst (IsPermutation (map parts_of (filter (λ file. file.level == level) s.files))) (sym (at_map p levels level))
        (subst (λ l. IsPermutation l (map p (get_or levels level []))) all (IsPermutation-map p (lists level) (get_or levels level []) (permuted level within)));
  }
    where
      long : length (map (map p) levels) ≡ length levels
      long = length-map levels (map p)

pub level_at : (cited : List Cited) (i j : ℕ) (d : Cited) → i ≡ j → (get_or cited i d).level ≡ (get_or cited j d).level
level_at cited i j d same = ap (λ k. (get_or cited k d).level) same
