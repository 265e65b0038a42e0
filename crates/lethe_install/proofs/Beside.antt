-- Which stored files stay, and which of them stand above the sources.
use Rattle.std.proofs.Common.{◌≡◌, ◌≢◌, ◌⊎◌, ◌<◌, ◌+◌, inl, inr, ℕ, Bool, true, false, eqb, List, [], ◌∷◌, ◌++◌, append-nil, length, map, All, Contains, refl, sym, ap, ◌∙◌, subst, arith}
use Rattle.std.specs.Prelude.{filter, not}
use Rattle.std.specs.Ordering.{is_le}
use Rattle.std.specs.declared.cmp.Ordering.TheVariants.{Less}
use Rattle.std.proofs.lemmas.Bool.{and_from, and_parts, cases_lt, eq-eqb, eqb-true}
use Rattle.std.proofs.lemmas.Bool.Decides.{nat_tests}
use Rattle.std.proofs.lemmas.List.Elements.{All-contains, Contains-append_cases, Contains-append_left, Contains-append_right, filter-append}
use Rattle.std.proofs.lemmas.List.Folds.{Any-from_list_any, list_any-from_Any, list_any_none}
use Rattle.std.proofs.lemmas.List.Kept.{AllPairs-filter}
use Rattle.lethe_advance.proofs.Lists.{filter_all, filter-filter}
use Rattle.lethe_base.specs.Keys.{key_cmp}
use Rattle.lethe_cover.proofs.Common.{⊎_elim, first_is}
use Rattle.lethe_cover.proofs.Lists.{Pairs, all_from, in_map, map_from, pairs_from, pairs_parts}
use Rattle.lethe_file.proofs.Joined.{filter_none}
use Rattle.lethe_follows.specs.Merged.{IsMergeIn, IsWhole, StoredMerge, at, hull_of, inputs_of, others_of, range_of}
use Rattle.lethe_follows.proofs.Tiled.{file_tiled}
use Rattle.lethe_header.specs.Facts.{least_key, greatest_key}
use Rattle.lethe_job.proofs.Listed.{one_numbered}
use Rattle.lethe_moves.proofs.Apart.{files_spanned}
use Rattle.lethe_moves.proofs.Common.{key_upto}
use Rattle.lethe_moves.proofs.KeyOrder.{IsUpto, not_less, upto_less}
use Rattle.lethe_moves.proofs.Tiled.{keys_ordered}
use Rattle.lethe_stored.specs.Files.{StoredFile, IsFile, cited_of, file_of}
use Rattle.lethe_stored.specs.Stored.{Stored, IsCoherent}
use Rattle.lethe_stored.proofs.FileFacts.{lower_is, upper_is}
use Rattle.lethe_stored.proofs.Leveled.{from_filter, from_level, in_filter}
use Rattle.lethe_install.specs.Inputs.{is_above, is_reached, number_of}
use Rattle.lethe_install.specs.Placed.{is_among, is_before, is_behind}

-- Tests

pub not_true : (b : Bool) → (b ≡ true → ⊥) → b ≡ false
not_true b fails = by b refl
  where
    by : (c : Bool) → b ≡ c → b ≡ false
    by true is = absurd (fails is)
    by false is = is

pub among_in : (numbers : List ℕ) (n : ℕ) → Contains numbers n → is_among numbers n ≡ true
among_in numbers n there = list_any-from_Any (λ no. eqb no n) numbers (there.0, n, there.1, there.2, eq-eqb n n refl)

pub among_from : (numbers : List ℕ) (n : ℕ) → is_among numbers n ≡ true → Contains numbers n
among_from numbers n is = let any = Any-from_list_any (λ no. eqb no n) numbers is in subst (Contains numbers) (eqb-true any.1 n any.4) (any.0, any.2, any.3)

-- Filtered parts

pub middle_gone : {X : Type 0} (p : X → Bool) (a b c : List X) → All (λ x. p x ≡ true) a → All (λ x. p x ≡ false) b → All (λ x. p x ≡ true) c → filter p (a ++ (b ++ c)) ≡ a ++ c
middle_gone p a b c one none two =
    filter-append p a (b ++ c) ∙ (λ i. filter_all p a one i ++ filter-append p b c i) ∙ (λ i. a ++ (filter_none p b none i ++ filter_all p c two i))

pub first_kept : {X : Type 0} (p : X → Bool) (a c : List X) → All (λ x. p x ≡ true) a → All (λ x. p x ≡ false) c → filter p (a ++ c) ≡ a
first_kept p a c one none = filter-append p a c ∙ (λ i. filter_all p a one i ++ filter_none p c none i) ∙ append-nil a

pub last_kept : {X : Type 0} (p : X → Bool) (a c : List X) → All (λ x. p x ≡ false) a → All (λ x. p x ≡ true) c → filter p (a ++ c) ≡ c
last_kept p a c none one = filter-append p a c ∙ (λ i. filter_none p a none i ++ filter_all p c one i)

some_in : (files : List StoredFile) → files ≢ [] → (file : StoredFile) × Contains files file
some_in [] some = absurd (some refl)
some_in (file ∷ files) some = (file, first_is file files file refl)

one_some : (files : List StoredFile) → length files ≡ 1 → files ≢ []
one_some files one none = let zero = ap length none in absurd (omega (arith, one, zero))

some_source : (m : StoredMerge) → IsWhole m → (file : StoredFile) × Contains m.sources file
some_source m whole = some_in m.sources (⊎_elim (λ zero. zero.2) (λ deep. one_some m.sources deep.1) whole)

module _ (s : Stored) (coherent : IsCoherent s) (m : StoredMerge) (begun : IsMergeIn s m) where
  abbrev next : ℕ
  next = m.level + 1

  abbrev numbers : List ℕ
  numbers = map number_of (inputs_of m)

  abbrev Apart : StoredFile → StoredFile → Type 0
  Apart a b = a.header.no ≢ b.header.no

  apart : Pairs Apart s.files
  apart = pairs_from Apart s.files coherent.files_once

  pub one_file : (a b : StoredFile) → Contains s.files a → Contains s.files b → a.header.no ≡ b.header.no → a ≡ b
  one_file a b left right same = one_numbered number_of s.files apart a b left right same

  apart_at : (k : ℕ) → Pairs Apart (at k s.files)
  apart_at k = pairs_from Apart (at k s.files) (AllPairs-filter Apart (λ (file : StoredFile). eqb file.level k) s.files coherent.files_once)

  in_from : (file : StoredFile) → Contains (m.newer ++ (m.sources ++ m.older)) file → Contains s.files file × (file.level ≡ m.level)
  in_from file there = from_level s.files m.level file (subst (λ files. Contains files file) (sym begun.from) there)

  in_into : (file : StoredFile) → Contains (m.lower ++ (m.met ++ m.higher)) file → Contains s.files file × (file.level ≡ next)
  in_into file there = from_level s.files next file (subst (λ files. Contains files file) (sym begun.into) there)

  source_in : (file : StoredFile) → Contains m.sources file → Contains s.files file × (file.level ≡ m.level)
  source_in file there = in_from file (Contains-append_right m.newer (m.sources ++ m.older) file (Contains-append_left m.sources m.older file there))

  met_in : (file : StoredFile) → Contains m.met file → Contains s.files file × (file.level ≡ next)
  met_in file there = in_into file (Contains-append_right m.lower (m.met ++ m.higher) file (Contains-append_left m.met m.higher file there))

  newer_in : (file : StoredFile) → Contains m.newer file → Contains s.files file × (file.level ≡ m.level)
  newer_in file there = in_from file (Contains-append_left m.newer (m.sources ++ m.older) file there)

  older_in : (file : StoredFile) → Contains m.older file → Contains s.files file × (file.level ≡ m.level)
  older_in file there = in_from file (Contains-append_right m.newer (m.sources ++ m.older) file (Contains-append_right m.sources m.older file there))

  lower_in : (file : StoredFile) → Contains m.lower file → Contains s.files file × (file.level ≡ next)
  lower_in file there = in_into file (Contains-append_left m.lower (m.met ++ m.higher) file there)

  higher_in : (file : StoredFile) → Contains m.higher file → Contains s.files file × (file.level ≡ next)
  higher_in file there = in_into file (Contains-append_right m.lower (m.met ++ m.higher) file (Contains-append_right m.met m.higher file there))

  pub input_in : (file : StoredFile) → Contains (inputs_of m) file → Contains s.files file
  input_in file there = ⊎_elim (λ source. (source_in file source).0) (λ met. (met_in file met).0) (Contains-append_cases m.sources m.met file there)

  input_level : (file : StoredFile) → Contains (inputs_of m) file → (file.level ≡ m.level) ⊎ (file.level ≡ next)
  input_level file there = elim (Contains-append_cases m.sources m.met file there) [ inl source ↦ inl (source_in file source).1 | inr met ↦ inr (met_in file met).1 ]

  -- Whether a file goes

  abbrev goes : StoredFile → Bool
  goes file = is_among numbers file.header.no

  abbrev kept : StoredFile → Bool
  kept file = not (goes file)

  pub input_goes : (file : StoredFile) → Contains (inputs_of m) file → goes file ≡ true
  input_goes file there = among_in numbers file.header.no (in_map number_of (inputs_of m) file there)

  pub gone_input : (file : StoredFile) → Contains s.files file → goes file ≡ true → Contains (inputs_of m) file
  gone_input file there is =
      let found = map_from number_of (inputs_of m) file.header.no (among_from numbers file.header.no is) in
      subst (Contains (inputs_of m)) (one_file found.0 file (input_in found.0 found.1) there found.2) found.1

  stays_if : (file : StoredFile) → Contains s.files file → (Contains (inputs_of m) file → ⊥) → kept file ≡ true
  stays_if file there out = ap not (not_true (goes file) (λ is. out (gone_input file there is)))

  input_lost : (file : StoredFile) → Contains (inputs_of m) file → kept file ≡ false
  input_lost file there = ap not (input_goes file there)

  abbrev parts_here : Pairs Apart m.newer × Pairs Apart (m.sources ++ m.older) × ((a b : StoredFile) → Contains m.newer a → Contains (m.sources ++ m.older) b → Apart a b)
  parts_here = pairs_parts Apart m.newer (m.sources ++ m.older) (subst (Pairs Apart) begun.from (apart_at m.level))

  abbrev parts_next : Pairs Apart m.lower × Pairs Apart (m.met ++ m.higher) × ((a b : StoredFile) → Contains m.lower a → Contains (m.met ++ m.higher) b → Apart a b)
  parts_next = pairs_parts Apart m.lower (m.met ++ m.higher) (subst (Pairs Apart) begun.into (apart_at next))

  newer_kept : All (λ file. kept file ≡ true) m.newer
  newer_kept = all_from (λ file. kept file ≡ true) m.newer (λ file there. let own = newer_in file there in stays_if file own.0 (λ input. ⊎_elim
      (λ source. parts_here.2 file file there (Contains-append_left m.sources m.older file source) refl)
      (λ met. let one = own.1 in let two = (met_in file met).1 in omega (arith, one, two))
      (Contains-append_cases m.sources m.met file input)))

  older_kept : All (λ file. kept file ≡ true) m.older
  older_kept = all_from (λ file. kept file ≡ true) m.older (λ file there. let own = older_in file there in stays_if file own.0 (λ input. ⊎_elim
      (λ source. (pairs_parts Apart m.sources m.older parts_here.1).2 file file source there refl)
      (λ met. let one = own.1 in let two = (met_in file met).1 in omega (arith, one, two))
      (Contains-append_cases m.sources m.met file input)))

  lower_kept : All (λ file. kept file ≡ true) m.lower
  lower_kept = all_from (λ file. kept file ≡ true) m.lower (λ file there. let own = lower_in file there in stays_if file own.0 (λ input. ⊎_elim
      (λ source. let one = own.1 in let two = (source_in file source).1 in omega (arith, one, two))
      (λ met. parts_next.2 file file there (Contains-append_left m.met m.higher file met) refl)
      (Contains-append_cases m.sources m.met file input)))

  higher_kept : All (λ file. kept file ≡ true) m.higher
  higher_kept = all_from (λ file. kept file ≡ true) m.higher (λ file there. let own = higher_in file there in stays_if file own.0 (λ input. ⊎_elim
      (λ source. let one = own.1 in let two = (source_in file source).1 in omega (arith, one, two))
      (λ met. (pairs_parts Apart m.met m.higher parts_next.1).2 file file met there refl)
      (Contains-append_cases m.sources m.met file input)))

  here_kept : filter kept (at m.level s.files) ≡ m.newer ++ m.older
  here_kept = ap (filter kept) begun.from ∙ middle_gone kept m.newer m.sources m.older newer_kept
      (all_from (λ file. kept file ≡ false) m.sources (λ file there. input_lost file (Contains-append_left m.sources m.met file there))) older_kept

  next_kept : filter kept (at next s.files) ≡ m.lower ++ m.higher
  next_kept = ap (filter kept) begun.into ∙ middle_gone kept m.lower m.met m.higher lower_kept
      (all_from (λ file. kept file ≡ false) m.met (λ file there. input_lost file (Contains-append_right m.sources m.met file there))) higher_kept

  rest_kept : (k : ℕ) → k ≢ m.level → k ≢ next → filter kept (at k s.files) ≡ at k s.files
  rest_kept k other away = filter_all kept (at k s.files) (all_from (λ file. kept file ≡ true) (at k s.files) (λ file there.
      let own = from_level s.files k file there in
      stays_if file own.0 (λ input. ⊎_elim (λ here. other (sym own.1 ∙ here)) (λ there. away (sym own.1 ∙ there)) (input_level file input))))

  -- Whether a file stands above the sources

  ordered : (file : StoredFile) → Contains s.files file → IsUpto (range_of file).lo (range_of file).hi
  ordered file there = keys_ordered (file_of file) (file_tiled s.manifest.next file (All-contains (IsFile s.manifest.next) s.files file coherent.each there))

  reach_is : (file source : StoredFile) → is_le (key_cmp (least_key file.header.tiles) (greatest_key source.header.tiles)) ≡ is_le (key_cmp (range_of file).lo (range_of source).hi)
  reach_is file source = λ i. is_le (key_cmp (lower_is file.header.tiles file.pages i) (upper_is [] source.header.tiles source.pages i))

  spanned : (source : StoredFile) → Contains m.sources source → IsUpto (hull_of m.sources).lo (range_of source).lo × IsUpto (range_of source).hi (hull_of m.sources).hi
  spanned source there = files_spanned (map file_of m.sources) (file_of source) (in_map file_of m.sources source there)

  lower_reached : (file : StoredFile) → Contains m.lower file → is_reached m.sources file ≡ true
  lower_reached file there =
      let some = some_source m begun.whole in
      let source = some.0 in
      let lower : IsUpto (range_of file).hi (hull_of m.sources).lo = ap is_le (All-contains (λ file. key_cmp (range_of file).hi (hull_of m.sources).lo ≡ Less) m.lower file begun.lower there) in
      let ends : IsUpto (range_of file).lo (hull_of m.sources).lo = key_upto (range_of file).lo (range_of file).hi (hull_of m.sources).lo (ordered file (lower_in file there).0) lower in
      let starts : IsUpto (range_of file).lo (range_of source).lo = key_upto (range_of file).lo (hull_of m.sources).lo (range_of source).lo ends (spanned source some.1).0 in
      let upto = key_upto (range_of file).lo (range_of source).lo (range_of source).hi starts (ordered source (source_in source some.1).0) in
      list_any-from_Any (λ (other : StoredFile). is_le (key_cmp (least_key file.header.tiles) (greatest_key other.header.tiles))) m.sources
      ((some.1).0, source, (some.1).1, (some.1).2, reach_is file source ∙ upto)

  higher_unreached : (file : StoredFile) → Contains m.higher file → is_reached m.sources file ≡ false
  higher_unreached file there =
      let test = λ (other : StoredFile). is_le (key_cmp (least_key file.header.tiles) (greatest_key other.header.tiles)) in
      list_any_none test m.sources (all_from (λ other. test other ≡ false) m.sources (λ source among.
      let less = upto_less (range_of source).hi (hull_of m.sources).hi (range_of file).lo (spanned source among).1
      (All-contains (λ file. key_cmp (hull_of m.sources).hi (range_of file).lo ≡ Less) m.higher file begun.higher there) in
      reach_is file source ∙ not_true (is_le (key_cmp (range_of file).lo (range_of source).hi)) (not_less (range_of source).hi (range_of file).lo less)))

  module _ (above : List ℕ) (is : above ≡ map number_of (filter (is_above next m.sources) s.files)) where
    abbrev behind : StoredFile → Bool
    behind file = is_behind next above (cited_of file)

    abbrev before : StoredFile → Bool
    before file = is_before next above (cited_of file)

    higher_among : (file : StoredFile) → Contains m.higher file → is_among above file.header.no ≡ true
    higher_among file there =
        let own = higher_in file there in
        among_in above file.header.no (subst (λ l. Contains l file.header.no) (sym is) (in_map number_of (filter (is_above next m.sources) s.files) file
        (in_filter (is_above next m.sources) s.files file own.0
        (and_from (eqb file.level next) (not (is_reached m.sources file)) (eq-eqb file.level next own.1) (ap not (higher_unreached file there))))))

    lower_out : (file : StoredFile) → Contains m.lower file → is_among above file.header.no ≡ false
    lower_out file there = not_true (is_among above file.header.no) (λ among.
        let found = map_from number_of (filter (is_above next m.sources) s.files) file.header.no (subst (λ l. Contains l file.header.no) is (among_from above file.header.no among)) in
        let passes = from_filter (is_above next m.sources) s.files found.0 found.1 in
        let same = one_file found.0 file passes.0 (lower_in file there).0 found.2 in
        let parts = and_parts (eqb file.level next) (not (is_reached m.sources file)) (subst (λ f. is_above next m.sources f ≡ true) same passes.1) in
        let clash : false ≡ true = ap not (sym (lower_reached file there)) ∙ parts.1 in cc)

    shallow_before : (file : StoredFile) → file.level < next → behind file ≡ false
    shallow_before file low = grind (arith, nat_tests)

    deep_behind : (file : StoredFile) → next < file.level → behind file ≡ true
    deep_behind file deep = grind (arith, nat_tests)

    own_level : (file : StoredFile) → file.level ≡ next → behind file ≡ is_among above file.header.no
    own_level file same = grind (arith, nat_tests)

    lower_before : (file : StoredFile) → Contains m.lower file → behind file ≡ false
    lower_before file there = own_level file (lower_in file there).1 ∙ lower_out file there

    higher_behind : (file : StoredFile) → Contains m.higher file → behind file ≡ true
    higher_behind file there = own_level file (higher_in file there).1 ∙ higher_among file there

    -- The files that are stored next

    module _ (made : List StoredFile) (level : All (λ (file : StoredFile). file.level ≡ next) made) where
      abbrev others : List StoredFile
      others = others_of s m

      abbrev pub placed : List StoredFile
      placed = filter before others ++ (made ++ filter behind others)

      abbrev has_level : ℕ → StoredFile → Bool
      has_level k file = eqb file.level k

      at_part : (p : StoredFile → Bool) (k : ℕ) → at k (filter p others) ≡ filter p (filter kept (at k s.files))
      at_part p k = filter-filter (has_level k) p others ∙ ap (filter p) (filter-filter (has_level k) kept s.files)

      at_placed : (k : ℕ) → at k placed ≡ filter before (filter kept (at k s.files)) ++ (at k made ++ filter behind (filter kept (at k s.files)))
      at_placed k =
          filter-append (has_level k) (filter before others) (made ++ filter behind others)
          ∙ (λ i. at_part before k i ++ filter-append (has_level k) made (filter behind others) i)
          ∙ (λ i. filter before (filter kept (at k s.files)) ++ (at k made ++ at_part behind k i))

      made_at : at next made ≡ made
      made_at = filter_all (has_level next) made (all_from (λ file. has_level next file ≡ true) made (λ file there. eq-eqb file.level next (All-contains (λ (file : StoredFile). file.level ≡ next) made file level there)))

      made_away : (k : ℕ) → k ≢ next → at k made ≡ []
      made_away k away = filter_none (has_level k) made (all_from (λ file. has_level k file ≡ false) made (λ file there.
          not_true (has_level k file) (λ same. away (sym (eqb-true file.level k same) ∙ All-contains (λ (file : StoredFile). file.level ≡ next) made file level there))))

      -- where all stand on one side, they stand as they were
      one_side : (k : ℕ) (files : List StoredFile) → k ≢ next → filter kept (at k s.files) ≡ files → (All (λ file. behind file ≡ false) files ⊎ All (λ file. behind file ≡ true) files) → at k placed ≡ files
      one_side k files away are side = at_placed k ∙ (λ i. filter before (are i) ++ (made_away k away i ++ filter behind (are i))) ∙ sided files side
        where
          sided : (files : List StoredFile) → (All (λ file. behind file ≡ false) files ⊎ All (λ file. behind file ≡ true) files) → filter before files ++ filter behind files ≡ files
          sided files (inl low) = (λ i. filter_all before files (λ k d lt. ap not (low k d lt)) i ++ filter_none behind files low i) ∙ append-nil files
          sided files (inr high) = λ i. filter_none before files (λ k d lt. ap not (high k d lt)) i ++ filter_all behind files high i

      pub placed_from : at m.level placed ≡ m.newer ++ m.older
      placed_from = one_side m.level (m.newer ++ m.older) (λ same. omega (arith, same)) here_kept (inl (all_from (λ file. behind file ≡ false) (m.newer ++ m.older) (λ file there.
          let level = ⊎_elim (λ left. (newer_in file left).1) (λ right. (older_in file right).1) (Contains-append_cases m.newer m.older file there) in
          shallow_before file (omega (arith, level)))))

      pub placed_rest : (k : ℕ) → k ≢ m.level → k ≢ next → at k placed ≡ at k s.files
      placed_rest k other away = one_side k (at k s.files) away (rest_kept k other away) (elim (cases_lt k next) [
        | inl low ↦ inl (all_from (λ file. behind file ≡ false) (at k s.files) (λ file there. let own = (from_level s.files k file there).1 in shallow_before file (omega (arith, own, low))))
        | inr high ↦ inr (all_from (λ file. behind file ≡ true) (at k s.files) (λ file there. let own = (from_level s.files k file there).1 in deep_behind file (omega (arith, own, high, away))))
      ])

      pub placed_into : at next placed ≡ m.lower ++ (made ++ m.higher)
      placed_into =
          let low = all_from (λ file. behind file ≡ false) m.lower lower_before in
          let high = all_from (λ file. behind file ≡ true) m.higher higher_behind in
          at_placed next
          ∙ (λ i. filter before (next_kept i) ++ (made_at i ++ filter behind (next_kept i)))
          ∙ (λ i. first_kept before m.lower m.higher (λ k d lt. ap not (low k d lt)) (λ k d lt. ap not (high k d lt)) i ++ (made ++ last_kept behind m.lower m.higher low high i))
