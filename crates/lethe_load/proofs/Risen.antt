-- Files that stand by level and ascend within one.
use Rattle.std.proofs.Common.{◌≡◌, ◌+◌, ◌<◌, ◌≤◌, ℕ, zero, suc, Bool, true, false, List, [], ◌∷◌, length, map, get_or, All, AllPairs, inl, inr, refl, sym, ap, subst, ◌∙◌, arith}
use Rattle.std.specs.Prelude.{filter, cond, ◌==◌}
use Rattle.std.specs.Cmp.Lexicographic.{nat_list_cmp_total}
use Rattle.std.specs.declared.cmp.Ordering.TheVariants.{Less}
use Rattle.std.proofs.lemmas.Bool.{cases_lt, eqb-true, eq-eqb}
use Rattle.std.proofs.lemmas.List.{get_or-map, length-map}
use Rattle.std.proofs.lemmas.List.Elements.{All-cons, All-head, All-tail, filter_passes}
use Rattle.std.proofs.lemmas.List.Kept.{AllPairs-cons, AllPairs-filter}
use Rattle.lethe_base.specs.Keys.{Bytes, key_cmp}
use Rattle.lethe_header.specs.Facts.{least_key, greatest_key}
use Rattle.lethe_header.specs.Headers.{HasSpelling}
use Rattle.lethe_file.proofs.Orders.{less_le}
use Rattle.lethe_tile.proofs.Orders.{pairs_nil, pairs_head, pairs_tail}
use Rattle.lethe_version.proofs.Probed.{keys_up}
use Rattle.lethe_stored.specs.Files.{StoredFile, cited_of}
use Rattle.lethe_stored.specs.Levels.{AreRising}
use Rattle.lethe_header.specs.declared.header.Header.{Header}
use Rattle.lethe_manifest.specs.declared.manifest.Cited.{Cited}
use Rattle.lethe_load.specs.Progress.{MayStand}

-- Pairs of those that pass a test

module _ {X : Type 0} (R : X → X → Type 0) (p : X → Bool) where
  abbrev Passing : X → X → Type 0
  Passing a b = p a ≡ true → p b ≡ true → R a b

  pub pairs_passing : (xs : List X) → AllPairs Passing xs → AllPairs R (filter p xs)
  pairs_passing xs all i j d lt inside =
      let passes = filter_passes p xs in
      AllPairs-filter Passing p xs all i j d lt inside (passes i d (omega (arith, lt, inside))) (passes j d inside)

  back : (xs : List X) (P : X → Type 0) → All P (filter p xs) → All (λ x. p x ≡ true → P x) xs
  back [] P all = λ k d lt. absurd (omega (arith, lt))
  back (x ∷ xs) P all = by (p x) refl (back xs P) all
    where
      by : (b : Bool) → p x ≡ b → (All P (filter p xs) → All (λ x. p x ≡ true → P x) xs) → All P (cond b (x ∷ filter p xs) (filter p xs)) → All (λ x. p x ≡ true → P x) (x ∷ xs)
      by true is rest all = All-cons (λ x. p x ≡ true → P x) x xs (λ _. All-head P x (filter p xs) all) (rest (All-tail P x (filter p xs) all))
      by false is rest all = All-cons (λ x. p x ≡ true → P x) x xs (λ yes. absurd cc) (rest all)

  pub passing_pairs : (xs : List X) → AllPairs R (filter p xs) → AllPairs Passing xs
  passing_pairs [] all = pairs_nil Passing
  passing_pairs (x ∷ xs) all = by (p x) refl (passing_pairs xs) all
    where
      by : (b : Bool) → p x ≡ b → (AllPairs R (filter p xs) → AllPairs Passing xs) → AllPairs R (cond b (x ∷ filter p xs) (filter p xs)) → AllPairs Passing (x ∷ xs)
      by true is rest all =
          let heads = back xs (R x) (pairs_head R x (filter p xs) all) in
          AllPairs-cons Passing x xs (λ k d lt _ q. heads k d lt q) (rest (pairs_tail R x (filter p xs) all))
      by false is rest all = AllPairs-cons Passing x xs (λ k d lt yes _. absurd cc) (rest all)

-- Levels

abbrev Ends : StoredFile → StoredFile → Type 0
Ends a b = key_cmp (greatest_key a.header.tiles) (least_key b.header.tiles) ≡ Less

abbrev Stand : StoredFile → StoredFile → Type 0
Stand a b = MayStand a.level b.level a.header b.header

pub rising_pairs : (files : List StoredFile) → AllPairs Stand files → AreRising files
rising_pairs files all level above =
    pairs_passing Ends (λ file. file.level == level) files (λ i j d lt inside first second.
    let one : (get_or files i d).level ≡ level = eqb-true _ _ first in
    let two : (get_or files j d).level ≡ level = eqb-true _ _ second in
    all i j d lt inside (subst (λ n. 0 < n) (sym two) above) (one ∙ sym two))

pub pairs_rising : (files : List StoredFile) → AreRising files → AllPairs Stand files
pairs_rising files rising i j d lt inside above same =
    let level = (get_or files j d).level in
    passing_pairs Ends (λ file. file.level == level) files (rising level above) i j d lt inside (eq-eqb _ _ same) (eq-eqb _ _ refl)

-- files each of which may stand before the next
module _ (files : List StoredFile) (spelled : All (λ file. HasSpelling file.header) files) (levels : AllPairs (λ a b. a.level ≤ b.level) files) where
  abbrev lo : ℕ → StoredFile → Bytes
  lo k d = least_key (get_or files k d).header.tiles

  abbrev hi : ℕ → StoredFile → Bytes
  hi k d = greatest_key (get_or files k d).header.tiles

  pub far_apart : ((k : ℕ) (d : StoredFile) → k + 1 < length files → Stand (get_or files k d) (get_or files (k + 1) d)) → AllPairs Stand files
  far_apart next i zero d lt inside = absurd (omega (arith, lt))
  far_apart next i (suc k) d lt inside = λ above same.
      let one : k + 1 ≡ suc k = omega arith in
      let here : k < length files = omega (arith, inside) in
      elim (cases_lt i k) [
        | inl before ↦
            let low = levels i k d before here in
            let high = levels k (suc k) d (omega arith) inside in
            let mid : (get_or files k d).level ≡ (get_or files (suc k) d).level = omega (arith, low, high, same) in
            let step : Ends (get_or files k d) (get_or files (suc k) d) = subst (λ (n : ℕ). Stand (get_or files k d) (get_or files n d)) one (next k d (omega (arith, inside))) above mid in
            let far : Ends (get_or files i d) (get_or files k d) = far_apart next i k d before here (subst (λ n. 0 < n) (sym mid) above) (same ∙ sym mid) in
            let upto = less_le (hi i d) (lo k d) (hi k d) far (keys_up (get_or files k d).header (spelled k d here)) in
            nat_list_cmp_total.trans (hi i d) (hi k d) (lo (suc k) d) upto step
        | inr behind ↦
            let is : i ≡ k = omega (arith, behind, lt) in
            let first : (get_or files k d).level ≡ (get_or files (suc k) d).level = ap (λ n. (get_or files n d).level) (sym is) ∙ same in
            let step : Ends (get_or files k d) (get_or files (suc k) d) = subst (λ (n : ℕ). Stand (get_or files k d) (get_or files n d)) one (next k d (omega (arith, inside))) above first in
            subst (λ (n : ℕ). Ends (get_or files n d) (get_or files (suc k) d)) (sym is) step
      ]

pub moved : (level level' next next' : ℕ) (a a' b b' : Header) → level ≡ level' → next ≡ next' → a ≡ a' → b ≡ b' → MayStand level next a b → MayStand level' next' a' b'
moved level level' next next' a a' b b' l n x y stand above same =
    sym (λ i. key_cmp (greatest_key (x i).tiles) (least_key (y i).tiles)) ∙ stand (subst (λ k. 0 < k) (sym n) above) (l ∙ same ∙ sym n)

-- the files of a version, as they are stored
module _ {F : Type 0} (header : F → Header) (cited : List Cited) (files : List F) (stored : List StoredFile) (cs : map cited_of stored ≡ cited) (hs : map (λ file. file.header) stored ≡ map header files) where
  len_cited : length stored ≡ length cited
  len_cited = sym (length-map stored cited_of) ∙ ap length cs

  len_files : length stored ≡ length files
  len_files = sym (length-map stored (λ (file : StoredFile). file.header)) ∙ ap length hs ∙ length-map files header

  level_at : (k : ℕ) (d : StoredFile) (e : Cited) → k < length stored → (get_or stored k d).level ≡ (get_or cited k e).level
  level_at k d e lt = ap (λ (c : Cited). c.level) (sym (get_or-map cited_of stored k d e lt) ∙ ap (λ l. get_or l k e) cs)

  header_at : (k : ℕ) (d : StoredFile) (f : F) → k < length stored → (get_or stored k d).header ≡ header (get_or files k f)
  header_at k d f lt =
      sym (get_or-map (λ (file : StoredFile). file.header) stored k d (header f) lt) ∙ ap (λ l. get_or l k (header f)) hs ∙ get_or-map header files k f (header f) (omega (arith, lt, len_files))

  pub risen : ((k : ℕ) (e : Cited) (f : F) → k + 1 < length files → MayStand (get_or cited k e).level (get_or cited (k + 1) e).level (header (get_or files k f)) (header (get_or files (k + 1) f)))
      → ((f : F) → HasSpelling (header f)) → AllPairs (λ a b. a.level ≤ b.level) cited → AreRising stored
  risen next spelled levels = rising_pairs stored (far_apart stored
      (λ k d lt. let f = some files (omega (arith, lt, len_files)) in subst HasSpelling (sym (header_at k d f lt)) (spelled (get_or files k f)))
      (λ i j d lt inside. omega (arith, levels i j (cited_of d) lt (omega (arith, inside, len_cited)), level_at i d (cited_of d) (omega (arith, lt, inside)), level_at j d (cited_of d) inside))
      (λ k d lt.
      let here : k < length stored = omega (arith, lt) in
      let f = some files (omega (arith, lt, len_files)) in
      moved _ _ _ _ _ _ _ _ (sym (level_at k d (cited_of d) here)) (sym (level_at (k + 1) d (cited_of d) lt)) (sym (header_at k d f here)) (sym (header_at (k + 1) d f lt)) (next k (cited_of d) f (omega (arith, lt, len_files)))))
    where
      some : (fs : List F) → 0 < length fs → F
      some [] lt = absurd (omega (arith, lt))
      some (f ∷ fs) lt = f

  pub standing : AreRising stored → (k : ℕ) (e : Cited) (f : F) → k + 1 < length files → MayStand (get_or cited k e).level (get_or cited (k + 1) e).level (header (get_or files k f)) (header (get_or files (k + 1) f))
  standing rising k e f lt =
      let inside : k + 1 < length stored = omega (arith, lt, len_files) in
      let here : k < length stored = omega (arith, inside) in
      let d = some stored (omega (arith, inside)) in
      moved _ _ _ _ _ _ _ _ (level_at k d e here) (level_at (k + 1) d e inside) (header_at k d f here) (header_at (k + 1) d f inside) (pairs_rising stored rising k (k + 1) d (omega arith) inside)
    where
      some : (fs : List StoredFile) → 0 < length fs → StoredFile
      some [] lt = absurd (omega (arith, lt))
      some (f ∷ fs) lt = f
