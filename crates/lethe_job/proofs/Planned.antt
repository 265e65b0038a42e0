-- The task of a plan that names a file merges files that are stored.
use Rattle.std.proofs.Common.{◌≡◌, ◌≢◌, ◌⊎◌, inl, inr, ℕ, ◌+◌, ◌<◌, Bool, true, false, not, eqb, ltb, IsTrue, List, [], ◌∷◌, ◌++◌, length, map, Some, None, refl, sym, ap, ◌∙◌, subst, arith, append-nil}
use Rattle.std.specs.Prelude.{◌&&◌, ◌||◌, All, Contains, Option, filter, find, option_map}
use Rattle.std.specs.List.{list_any}
use Rattle.std.specs.declared.cmp.Ordering.TheVariants.{Less}
use Rattle.std.proofs.lemmas.Bool.{and_from, and_parts, cases_eq, cases_lt, eq-eqb, eqb-true, ne_eqb, not-true, not_from_false, or_left, or_right}
use Rattle.std.proofs.lemmas.Bool.Decides.{nat_tests}
use Rattle.std.proofs.lemmas.List.Elements.{All-contains, filter_agree, filter_passes}
use Rattle.std.proofs.lemmas.List.Folds.{list_any_at, list_any_none}
use Rattle.std.proofs.lemmas.List.Kept.{AllPairs-filter}
use Rattle.lethe_base.specs.Keys.{key_cmp}
use Rattle.lethe_base.specs.Shapes as shapes
use Rattle.lethe_base.specs.declared.config.Fields.{Fields}
use Rattle.lethe_base.specs.declared.pending.Pending.{Pending}
use Rattle.lethe_cover.proofs.Common.{none_in}
use Rattle.lethe_cover.proofs.Lists.{all_from, pairs_from}
use Rattle.lethe_fade.specs.Spans.{KeyRange, hull, joined, overlaps}
use Rattle.lethe_fade.specs.declared.plan.Plan.{Plan}
use Rattle.lethe_follows.specs.Merged.{StoredMerge, IsAlone, IsMergeIn, at, erases_upto, hull_of, range_of}
use Rattle.lethe_follows.proofs.Tiled.{file_tiled}
use Rattle.lethe_header.specs.Facts.{greatest_key, least_key}
use Rattle.lethe_moves.specs.Files.{IsClearOf}
use Rattle.lethe_moves.proofs.Tiled.{keys_ordered}
use Rattle.lethe_stored.specs.Files.{StoredFile, IsFile, file_of}
use Rattle.lethe_stored.specs.Levels.{AreRising}
use Rattle.lethe_stored.specs.Stored.{Stored, IsCoherent, count_of, pending_of}
use Rattle.lethe_stored.proofs.FileFacts.{lower_is, upper_is}
use Rattle.lethe_stored.proofs.Leveled.{from_level, in_filter, in_level, low_level}
use Rattle.lethe_job.specs.Chosen.{hull_in, hull_with, is_below, is_named, is_source, level_named, met_in, range_in, sources_in, merge_in}
use Rattle.lethe_job.specs.Tasks.{IsPlannedMerge, IsMergeTask}
use Rattle.lethe_job.proofs.Listed.{among, find_some, filter_twice, pairs_weaker}
use Rattle.lethe_job.proofs.Split.{IsParted, and_false, parted}

-- The file that is named

pub level_from : (levels number : ℕ) (files : List StoredFile) (level : ℕ) → level_named levels number files ≡ Some level
    → (file : StoredFile) × Contains files file × (file.level ≡ level) × (level < levels) × (file.header.no ≡ number)
level_from levels number files level is = by (find (is_named levels number) files) refl is
  where
    by : (o : Option StoredFile) → find (is_named levels number) files ≡ o → option_map (λ (file : StoredFile). file.level) o ≡ Some level
        → (file : StoredFile) × Contains files file × (file.level ≡ level) × (level < levels) × (file.header.no ≡ number)
    by None found is = absurd cc
    by (Some file) found is =
        let there = find_some (is_named levels number) files file found in
        let parts = and_parts (ltb file.level levels) (eqb file.header.no number) there.1 in
        let same : file.level ≡ level = cc in
        let less = parts.0 in
        let low : file.level < levels = grind (arith, nat_tests) in
        (file, there.0, same, omega (arith, low, same), eqb-true file.header.no number parts.1)

pub source_there : (level number : ℕ) (files : List StoredFile) (file : StoredFile) → Contains files file → file.level ≡ level → file.header.no ≡ number → Contains (sources_in level number files) file
source_there level number files file there same named = in_filter (is_source level number) files file there
    (and_from (eqb file.level level) (eqb level 0 || eqb file.header.no number) (eq-eqb file.level level same) (or_right (eqb level 0) (eqb file.header.no number) (eq-eqb file.header.no number named)))

-- Keys

pub range_same : (file : StoredFile) → range_in file ≡ range_of file
range_same file = λ i. record { lo = lower_is file.header.tiles file.pages i; hi = upper_is [] file.header.tiles file.pages i }

with_same : (keys : KeyRange) (files : List StoredFile) → hull_with keys files ≡ hull keys (map (shapes.facts_of 0) (map file_of files))
with_same keys [] = refl
with_same keys (file ∷ files) = ap (λ own. hull_with (joined keys own) files) (range_same file) ∙ with_same (joined keys (range_of file)) files

pub hull_same : (files : List StoredFile) → hull_in files ≡ hull_of files
hull_same [] = refl
hull_same (file ∷ files) = ap (λ own. hull_with own files) (range_same file) ∙ with_same (range_of file) files

-- Tests

true_and : (a b : Bool) → b ≡ true → (a && b) ≡ a
true_and true b is = is
true_and false b is = refl

false_or : (a b : Bool) → a ≡ false → (a || b) ≡ b
false_or true b is = absurd cc
false_or false b is = refl

true_not_false : (b : Bool) → b ≡ true → b ≡ false → ⊥
true_not_false b holds none = let clash : true ≡ false = sym holds ∙ none in cc

pub none_passes : {X : Type 0} (p : X → Bool) (xs : List X) → list_any p xs ≡ false → (x : X) → Contains xs x → p x ≡ false
none_passes p xs none x there = by (p x) refl
  where
    by : (b : Bool) → p x ≡ b → b ≡ false
    by true passes = absurd (true_not_false (list_any p xs) (list_any_at p xs there.0 x there.1 (ap p there.2 ∙ passes)) none)
    by false passes = refl

module _ (s : Stored) (coherent : IsCoherent s) (rising : AreRising s.files) (level : ℕ) (plan : Plan) (file : StoredFile) (there : Contains s.files file) (same : file.level ≡ level) (named : file.header.no ≡ plan.file) where
  abbrev number : ℕ
  number = plan.file

  abbrev sources : List StoredFile
  sources = sources_in level number s.files

  abbrev met : List StoredFile
  met = met_in (level + 1) (hull_in sources) s.files

  has_source : Contains sources file
  has_source = source_there level number s.files file there same named

  -- the sources among the files of their level
  record AreSources : Type 0 where
    newer : List StoredFile
    older : List StoredFile
    from : at level s.files ≡ newer ++ (sources ++ older)
    whole : ((level ≡ 0) × (older ≡ []) × (sources ≢ [])) ⊎ ((0 < level) × (length sources ≡ 1))
    all : level ≡ 0 → newer ≡ []

  whole_level : level ≡ 0 → AreSources
  whole_level zeroth =
      let are : sources ≡ at level s.files = filter_agree (is_source level number) (λ (f : StoredFile). eqb f.level level)
      (λ f. true_and (eqb f.level level) (eqb level 0 || eqb f.header.no number) (or_left (eqb level 0) (eqb f.header.no number) (eq-eqb level 0 zeroth))) s.files in
      record {
        newer = [];
        older = [];
        from = sym are ∙ sym (append-nil sources);
        whole = inl (zeroth, refl, λ none. none_in file (subst (λ l. Contains l file) none has_source));
        all = λ zero. refl;
      }

  abbrev Apart : StoredFile → StoredFile → Type 0
  Apart a b = a.header.no ≢ b.header.no

  one_file : level ≢ 0 → AreSources
  one_file deep =
      let here = at level s.files in
      let split = among (λ (f : StoredFile). f.header.no) here file (pairs_from Apart here (AllPairs-filter Apart (λ (f : StoredFile). eqb f.level level) s.files coherent.files_once)) (in_level s.files level file there same) in
      let alone : sources ≡ file ∷ [] =
      filter_twice (λ (f : StoredFile). eqb f.level level) (λ (f : StoredFile). eqb level 0 || eqb f.header.no number) s.files
      ∙ filter_agree (λ (f : StoredFile). eqb level 0 || eqb f.header.no number) (λ (f : StoredFile). eqb f.header.no file.header.no)
      (λ f. false_or (eqb level 0) (eqb f.header.no number) (ne_eqb level 0 deep) ∙ ap (eqb f.header.no) (sym named)) here
      ∙ split.alone in
      record {
        newer = split.before;
        older = split.behind;
        from = split.are ∙ ap (λ l. split.before ++ (l ++ split.behind)) (sym alone);
        whole = inr (omega (arith, deep), ap length alone);
        all = λ zero. absurd (deep zero);
      }

  are_sources : AreSources
  are_sources = elim (cases_eq level 0) [ inl zeroth ↦ whole_level zeroth | inr deep ↦ one_file deep ]

  -- the files of the next level

  abbrev next : List StoredFile
  next = at (level + 1) s.files

  split_next : IsParted range_of (hull_of sources) next
  split_next = parted range_of (hull_of sources) next
      (λ f inside. keys_ordered (file_of f) (file_tiled s.manifest.next f (All-contains (IsFile s.manifest.next) s.files f coherent.each (from_level s.files (level + 1) f inside).0)))
      (pairs_weaker (λ a b. key_cmp (greatest_key a.header.tiles) (least_key b.header.tiles) ≡ Less) (λ a b. key_cmp (range_of a).hi (range_of b).lo ≡ Less) next
      (λ a b less. sym (λ i. key_cmp (range_same a i).hi (range_same b i).lo) ∙ less)
      (pairs_from (λ a b. key_cmp (greatest_key a.header.tiles) (least_key b.header.tiles) ≡ Less) next (rising (level + 1) (omega arith))))

  met_is : met ≡ filter (λ f. overlaps (hull_of sources) (range_of f)) next
  met_is = filter_twice (λ (f : StoredFile). eqb f.level (level + 1)) (λ (f : StoredFile). overlaps (hull_in sources) (range_in f)) s.files
      ∙ filter_agree (λ (f : StoredFile). overlaps (hull_in sources) (range_in f)) (λ f. overlaps (hull_of sources) (range_of f)) (λ f i. overlaps (hull_same sources i) (range_same f i)) next

  abbrev m : StoredMerge
  m = record { level = level; newer = are_sources.newer; sources = sources; older = are_sources.older; lower = split_next.lower; met = met; higher = split_next.higher }

  is_merge : level < s.manifest.config.levels → IsMergeIn s m
  is_merge low = record {
    level = low;
    from = are_sources.from;
    whole = are_sources.whole;
    into = split_next.are ∙ ap (λ l. split_next.lower ++ (l ++ split_next.higher)) (sym met_is);
    lower = split_next.below;
    met = subst (All (λ f. IsTrue (overlaps (hull_of sources) (range_of f)))) (sym met_is) (filter_passes (λ f. overlaps (hull_of sources) (range_of f)) next);
    higher = split_next.above;
  }

  -- what lies below

  abbrev inputs : List StoredFile
  inputs = sources ++ met

  abbrev below : StoredFile → Bool
  below = is_below (level + 1) (hull_in inputs)

  alone_from : list_any below s.files ≡ false → IsAlone s level (hull_of inputs)
  alone_from none = all_from (λ f. level + 1 < f.level → IsClearOf (hull_of inputs) (file_of f)) s.files (λ f inside deeper.
      let fails : below f ≡ false = none_passes below s.files none f inside in
      let less : ltb (level + 1) f.level ≡ true = grind (arith, nat_tests) in
      sym (λ i. overlaps (hull_same inputs i) (range_same f i)) ∙ sym (ap (λ b. b && overlaps (hull_in inputs) (range_in f)) less) ∙ fails)

  alone_to : ((f : StoredFile) → Contains s.files f → level + 1 < f.level → IsClearOf (hull_of inputs) (file_of f)) → IsTrue (not (list_any below s.files))
  alone_to clear = not_from_false (list_any below s.files) (list_any_none below s.files (all_from (λ f. below f ≡ false) s.files (λ f inside. elim (cases_lt (level + 1) f.level) [
    | inl deeper ↦ and_false (ltb (level + 1) f.level) (overlaps (hull_in inputs) (range_in f)) ((λ i. overlaps (hull_same inputs i) (range_same f i)) ∙ clear f inside deeper)
    | inr upto ↦ let less : ltb (level + 1) f.level ≡ false = grind (arith, nat_tests) in ap (λ b. b && overlaps (hull_in inputs) (range_in f)) less
  ])))

  module _ (config : Fields) (configured : s.manifest.config ≡ config) (erases : List Pending) (pending : erases ≡ pending_of s) (upto : ℕ) (counted : upto ≡ count_of s) (low : level < config.levels) where
    low_here : level < s.manifest.config.levels
    low_here = let levels = ap (λ (fields : Fields). fields.levels) configured in omega (arith, levels, low)

    is_task : IsMergeTask s m (merge_in level plan s.files config erases upto)
    is_task = record {
      merge = is_merge low_here;
      level = refl;
      sources = refl;
      met = refl;
      clear = λ alone. alone_from (not-true (list_any below s.files) alone);
      bottom = λ last. alone_to (λ f inside deeper. let most = low_level s coherent f inside in absurd (omega (arith, last, most, deeper)));
      erases = ap (erases_upto upto) pending;
      upto = omega (arith, counted);
      config = sym configured;
    }

    pub is_planned : IsPlannedMerge s (merge_in level plan s.files config erases upto)
    is_planned = record {
      m = m;
      is = is_task;
      named = (has_source.0, file, has_source.1, has_source.2, named);
      all = are_sources.all;
      alone = λ clear. alone_to (λ f inside. All-contains (λ f. level + 1 < f.level → IsClearOf (hull_of inputs) (file_of f)) s.files f clear inside);
      counted = counted;
    }
