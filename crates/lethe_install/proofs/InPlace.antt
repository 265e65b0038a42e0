-- The cited files with what is made in the place of one.
use Rattle.std.proofs.Common.{◌≡◌, ◌≢◌, ◌≤◌, ◌<◌, inl, inr, ℕ, Bool, true, false, List, [], ◌∷◌, ◌++◌, map, All, Contains, refl, sym, ap, ◌∙◌, subst, arith}
use Rattle.std.specs.Prelude.{filter, not}
use Rattle.std.proofs.lemmas.Bool.{cases_lt, eq-eqb, ne_eqb}
use Rattle.std.proofs.lemmas.Bool.Decides.{nat_tests}
use Rattle.lethe_cover.proofs.Common.{first_is}
use Rattle.lethe_cover.proofs.Lists.{Pairs, all_from, in_map, in_rest, map_from, only_in, pairs_from, pairs_parts, pairs_unmap}
use Rattle.lethe_manifest.specs.declared.manifest.Cited.{Cited}
use Rattle.lethe_stored.specs.Files.{StoredFile, cited_of}
use Rattle.lethe_stored.specs.Stored.{IsCoherent, Stored}
use Rattle.lethe_sweeps.specs.Swept.{StoredSweep, files_before}
use Rattle.lethe_install.specs.Placed.{is_among, is_before, is_behind, stays, with_made}
use Rattle.lethe_install.specs.Replaced as replaced
use Rattle.lethe_install.proofs.Beside.{among_from, among_in, first_kept, last_kept, middle_gone, not_true}
use Rattle.lethe_install.proofs.Between.{with_made_laid}
use Rattle.lethe_install.proofs.Replacing.{behind_laid}

module _ (level : ℕ) (above : List ℕ) (file : Cited) where
  shallow : file.level < level → is_behind level above file ≡ false
  shallow low = grind (arith, nat_tests)

  deep : level < file.level → is_behind level above file ≡ true
  deep high = grind (arith, nat_tests)

  own_level : file.level ≡ level → is_behind level above file ≡ is_among above file.no
  own_level same = grind (arith, nat_tests)

stays_other : (a b : ℕ) → (a ≡ b → ⊥) → not (is_among (a ∷ []) b) ≡ true
stays_other a b differ = grind (arith, ne_eqb a b differ)

goes_own : (a : ℕ) → not (is_among (a ∷ []) a) ≡ false
goes_own a = grind (arith, eq-eqb a a refl)

module _ (s : Stored) (coherent : IsCoherent s) (w : StoredSweep) (are : s.files ≡ files_before w) where
  abbrev number : ℕ
  number = w.file.header.no

  abbrev level : ℕ
  level = w.file.level

  abbrev above : List ℕ
  above = map (λ (file : Cited). file.no) (map cited_of w.back)

  abbrev Apart : StoredFile → StoredFile → Type 0
  Apart a b = a.header.no ≢ b.header.no

  files_apart : Pairs Apart w.front × Pairs Apart (w.file ∷ w.back) × ((a b : StoredFile) → Contains w.front a → Contains (w.file ∷ w.back) b → Apart a b)
  files_apart = pairs_parts Apart w.front (w.file ∷ w.back) (subst (Pairs Apart) are (pairs_from Apart s.files coherent.files_once))

  front_apart : (file : StoredFile) → Contains w.front file → file.header.no ≢ number
  front_apart file there = files_apart.2 file w.file there (first_is w.file w.back w.file refl)

  back_apart : (file : StoredFile) → Contains w.back file → number ≢ file.header.no
  back_apart file there = files_apart.1.0 file there

  abbrev IsRising : StoredFile → StoredFile → Type 0
  IsRising a b = a.level ≤ b.level

  abbrev AreRising : Cited → Cited → Type 0
  AreRising a b = a.level ≤ b.level

  cited_are : s.manifest.files ≡ map cited_of (files_before w)
  cited_are = coherent.files ∙ ap (map cited_of) are

  levels_rise : Pairs IsRising w.front × Pairs IsRising (w.file ∷ w.back) × ((a b : StoredFile) → Contains w.front a → Contains (w.file ∷ w.back) b → IsRising a b)
  levels_rise = pairs_parts IsRising w.front (w.file ∷ w.back) (pairs_unmap AreRising cited_of (files_before w)
      (subst (Pairs AreRising) cited_are (pairs_from AreRising s.manifest.files ((coherent.spelled).files).ascending)))

  front_level : (file : StoredFile) → Contains w.front file → file.level ≤ level
  front_level file there = levels_rise.2 file w.file there (first_is w.file w.back w.file refl)

  back_level : (file : StoredFile) → Contains w.back file → level ≤ file.level
  back_level file there = levels_rise.1.0 file there

  abbrev behind : StoredFile → Bool
  behind file = is_behind level above (cited_of file)

  abbrev before : StoredFile → Bool
  before file = is_before level above (cited_of file)

  abbrev kept : StoredFile → Bool
  kept file = stays (number ∷ []) (cited_of file)

  among : (file : StoredFile) → Contains w.back file → is_among above file.header.no ≡ true
  among file there = among_in above file.header.no (in_map (λ (file : Cited). file.no) (map cited_of w.back) (cited_of file) (in_map cited_of w.back file there))

  not_among : (file : StoredFile) → Contains w.front file → is_among above file.header.no ≡ false
  not_among file there = not_true (is_among above file.header.no) (λ is.
      let cited = map_from (λ (file : Cited). file.no) (map cited_of w.back) file.header.no (among_from above file.header.no is) in
      let found = map_from cited_of w.back cited.0 cited.1 in
      files_apart.2 file found.0 there (in_rest w.file w.back found.0 found.1) (sym (ap (λ (c : Cited). c.no) found.2 ∙ cited.2)))

  front_before : (file : StoredFile) → Contains w.front file → behind file ≡ false
  front_before file there = elim (cases_lt file.level level) [
    | inl low ↦ shallow level above (cited_of file) low
    | inr high ↦ let most = front_level file there in own_level level above (cited_of file) (omega (arith, high, most)) ∙ not_among file there
  ]

  back_behind : (file : StoredFile) → Contains w.back file → behind file ≡ true
  back_behind file there = elim (cases_lt level file.level) [
    | inl high ↦ deep level above (cited_of file) high
    | inr low ↦ let least = back_level file there in own_level level above (cited_of file) (omega (arith, low, least)) ∙ among file there
  ]

  kept_are : filter kept (files_before w) ≡ w.front ++ w.back
  kept_are = middle_gone kept w.front (w.file ∷ []) w.back
      (all_from (λ file. kept file ≡ true) w.front (λ file there. stays_other number file.header.no (λ same. front_apart file there (sym same))))
      (all_from (λ file. kept file ≡ false) (w.file ∷ []) (λ file there. subst (λ (f : StoredFile). kept f ≡ false) (only_in w.file file there) (goes_own number)))
      (all_from (λ file. kept file ≡ true) w.back (λ file there. stays_other number file.header.no (back_apart file there)))

  fronts : All (λ file. behind file ≡ false) w.front
  fronts = all_from (λ file. behind file ≡ false) w.front front_before

  backs : All (λ file. behind file ≡ true) w.back
  backs = all_from (λ file. behind file ≡ true) w.back back_behind

  before_are : filter before (filter kept (files_before w)) ≡ w.front
  before_are = ap (filter before) kept_are ∙ first_kept before w.front w.back (λ k d lt. ap not (fronts k d lt)) (λ k d lt. ap not (backs k d lt))

  behind_are : filter behind (filter kept (files_before w)) ≡ w.back
  behind_are = ap (filter behind) kept_are ∙ last_kept behind w.front w.back fronts backs

  above_are : map (λ (file : Cited). file.no) (replaced.behind number s.manifest.files) ≡ above
  above_are = ap (map (λ (file : Cited). file.no)) (ap (replaced.behind number) cited_are ∙ behind_laid w.front w.file w.back front_apart)

  pub in_place : (made : List StoredFile) → with_made level (number ∷ []) (map (λ (file : Cited). file.no) (replaced.behind number s.manifest.files)) (map cited_of made)
      s.manifest.files ≡ map cited_of (w.front ++ (made ++ w.back))
  in_place made =
      (λ i. with_made level (number ∷ []) (above_are i) (map cited_of made) (cited_are i))
      ∙ with_made_laid level (number ∷ []) above made (files_before w)
      ∙ (λ i. map cited_of (before_are i ++ (made ++ behind_are i)))
