-- A plan that is chosen or due names a file: for a merge one above the last level, and for a sweep one that the first erase is still to be applied to.
use Rattle.std.proofs.Common.{◌≡◌, ◌⊎◌, inl, inr, ℕ, suc, ◌+◌, ◌<◌, ◌≤◌, min, Bool, true, false, cond, eqb, ltb, List, [], ◌∷◌, get_or, length, fold, map, Some, None, refl, sym, ap, ◌∙◌, subst, arith}
use Rattle.std.specs.Prelude.{◌++◌, All, Contains, IsSome, Option, is_some, filter, find, nat_lt, option_map, slice_get}
use Rattle.std.specs.List.{range_with_len}
use Rattle.std.specs.List.Sorted.{IsPermutation}
use Rattle.std.specs.declared.cmp.Ordering.{Ordering}
use Rattle.std.proofs.lemmas.Bool.{and_from, cases_lt, eq-eqb, ltb-true}
use Rattle.std.proofs.lemmas.Bool.Decides.{nat_tests}
use Rattle.std.proofs.lemmas.List.Elements.{All-contains, Contains-append_cases}
use Rattle.std.proofs.lemmas.List.FromFn.{get_or-map-range_with_len, length-map-range_with_len}
use Rattle.std.proofs.lemmas.List.Sorted.{Contains-permutation, IsPermutation-sym}
use Rattle.lethe_base.specs.Spent.{left_erases}
use Rattle.lethe_base.specs.declared.config.Fields.{Fields}
use Rattle.lethe_base.specs.declared.pending.Pending.{Pending}
use Rattle.lethe_base.specs.declared.shape.FileFacts.{FileFacts}
use Rattle.lethe_base.specs.declared.shape.Shape.{Shape}
use Rattle.lethe_cover.proofs.Common.{⊎_elim, none_in, first_is, first_or_rest}
use Rattle.lethe_cover.proofs.Lists.{in_rest, map_from}
use Rattle.lethe_fade.specs.Candidates.{Candidate, first_files, is_free, merge_named, merges_from}
use Rattle.lethe_fade.specs.Choice.{candidates, choice, file_merges, level_merges, whole_merges}
use Rattle.lethe_fade.specs.Due.{due, is_overdue, overdue_sweeps}
use Rattle.lethe_fade.specs.Expired.{expired, expired_cmp, expired_merges, is_expired, sources_keys}
use Rattle.lethe_fade.specs.Ranks.{file_cmp, sorted_by}
use Rattle.lethe_fade.specs.Saturation.{is_saturated}
use Rattle.lethe_fade.specs.Spans.{KeyRange, range_of}
use Rattle.lethe_fade.specs.Sweeps.{is_unswept, sweep_of, sweeps, sweeps_in}
use Rattle.lethe_fade.specs.declared.plan.Plan.{Plan}
use Rattle.lethe_fade.proofs.Expiring.{timed_merges}
use Rattle.lethe_fade.proofs.OrderLaws.{expired_come_in_order, files_come_in_order, sweeps_come_in_order}
use Rattle.lethe_header.specs.Facts.{facts_of}
use Rattle.lethe_stored.specs.Files.{StoredFile}
use Rattle.lethe_stored.specs.Stored.{Stored, IsCoherent, layout_of}
use Rattle.lethe_stored.proofs.Leveled.{from_filter, from_level, of_level}
use Rattle.lethe_job.specs.Chosen as job
use Rattle.lethe_job.specs.Chosen.{is_named}
use Rattle.lethe_job.specs.Shapes.{due_shape, facts_at, shape_of}
use Rattle.lethe_job.specs.Works.{IsNamedBy, IsPlanIn}
use Rattle.lethe_job.proofs.Listed.{any_from, find_some, find_there}
use Rattle.lethe_job.proofs.Shaped.{due_shape_same}

-- one of the files has that number
abbrev pub HasNumber : List FileFacts → ℕ → Type 0
HasNumber files number = (file : FileFacts) × Contains files file × (file.no ≡ number)

-- it names one of the files, for a merge
abbrev pub IsMergeOf : List FileFacts → Plan → Type 0
IsMergeOf files plan = HasNumber files plan.file × (plan.erase ≡ None)

-- it names one of the files, which the erase of that place is still to be applied to, for a sweep
abbrev pub IsSweepOf : ℕ → List FileFacts → Plan → Type 0
IsSweepOf place files plan = (file : FileFacts) × Contains files file × (file.no ≡ plan.file) × (file.swept < place) × (plan.erase ≡ Some place)

least_is : (first : FileFacts) (least : ℕ) (files others : List FileFacts) → Contains files first → first.no ≡ least → ((file : FileFacts) → Contains others file → Contains files file)
    → HasNumber files (fold (λ least (file : FileFacts). min least file.no) least others)
least_is first least files [] there is inside = (first, there, is)
least_is first least files (file ∷ others) there is inside = elim (cases_lt file.no least) [
  | inr le ↦ least_is first (min least file.no) files others there (omega (arith, le, is)) (λ other within. inside other (in_rest file others other within))
  | inl lt ↦ least_is file (min least file.no) files others (inside file (first_is file others file refl)) (omega (arith, lt)) (λ other within. inside other (in_rest file others other within))
]

first_in : (merges : List Candidate) (c : Candidate) → slice_get merges 0 ≡ Some c → Contains merges c
first_in [] c is = absurd cc
first_in (merge ∷ others) c is = let same : merge ≡ c = cc in first_is merge others c same

-- The levels

abbrev Lists : Type 0
Lists = ℕ → List FileFacts → List FileFacts → List Candidate

module _ (Names : ℕ → List FileFacts → Plan → Type 0) where
  -- each candidate of a level names one of its files so
  abbrev AreNamed : Lists → Type 0
  AreNamed lists = (level : ℕ) (files next : List FileFacts) (c : Candidate) → Contains (lists level files next) c → Names level files c.plan

  -- one of the levels, the first of which has that number, has a file that the candidate names so
  abbrev IsNamedIn : ℕ → List (List FileFacts) → Candidate → Type 0
  IsNamedIn first levels c = (level : ℕ) × (place : ℕ) × (level ≡ first + place) × (place < length levels) × Names level (get_or levels place []) c.plan

  levels_named : (lists : Lists) → AreNamed lists → (first : ℕ) (levels : List (List FileFacts)) (c : Candidate) → Contains (merges_from lists first levels) c → IsNamedIn first levels c
  levels_named lists named first [] c there = absurd (none_in c there)
  levels_named lists named first (files ∷ deeper) c there = ⊎_elim
      (λ here. (first, 0, omega arith, omega arith, named first files (first_files deeper) c here))
      (λ behind. let rest = levels_named lists named (first + 1) deeper c behind in let at = rest.2 in let within = rest.3 in (rest.0, suc rest.1, omega (arith, at), omega (arith, within), rest.4))
      (Contains-append_cases (lists first files (first_files deeper)) (merges_from lists (first + 1) deeper) c there)

  -- of the shape of stored files
  shape_named : (deepest : ℕ) (files : List StoredFile) (c : Candidate) → IsNamedIn 0 (map (facts_at files) (range_with_len 0 (deepest + 1))) c → (level : ℕ) × Names level (facts_at files level) c.plan
  shape_named deepest files c named =
      let at = named.2 in
      let within = named.3 in
      let count = length-map-range_with_len (facts_at files) 0 (deepest + 1) in
      let here : get_or (map (facts_at files) (range_with_len 0 (deepest + 1))) named.1 [] ≡ facts_at files named.0 =
      get_or-map-range_with_len (facts_at files) 0 (deepest + 1) named.1 named.0 [] (omega (arith, within, count)) (omega (arith, at)) in
      (named.0, subst (λ l. Names named.0 l c.plan) here named.4)

-- Merges

module _ (fields : Fields) where
  whole_named : (files next : List FileFacts) (c : Candidate) → Contains (whole_merges files next) c → IsMergeOf files c.plan
  whole_named [] next c there = absurd (none_in c there)
  whole_named (first ∷ others) next c there = ⊎_elim
      (λ same. subst (IsMergeOf (first ∷ others)) (ap (λ (c : Candidate). c.plan) same)
      (least_is first first.no (first ∷ others) others (first_is first others first refl) refl (λ file within. in_rest first others file within), refl))
      (λ none. absurd (none_in c none)) (first_or_rest _ [] c there)

  -- of some of the files, whatever their order
  sorted_named : (cmp : FileFacts → FileFacts → Ordering) (level : ℕ) (keys : FileFacts → KeyRange) (some files next : List FileFacts) → IsPermutation some (sorted_by cmp some)
      → ((file : FileFacts) → Contains some file → Contains files file)
      → (c : Candidate) → Contains (map (λ file. merge_named file.no level (keys file) next) (sorted_by cmp some)) c → IsMergeOf files c.plan
  sorted_named cmp level keys some files next same among c there =
      let sorted = sorted_by cmp some in
      let from = map_from (λ (file : FileFacts). merge_named file.no level (keys file) next) sorted c there in (
        (from.0, among from.0 (Contains-permutation sorted some from.0 (IsPermutation-sym some sorted same) from.1), ap (λ (c : Candidate). c.plan.file) from.2),
        sym (ap (λ (c : Candidate). c.plan.erase) from.2),
      )

  each_named : (level : ℕ) (files next : List FileFacts) (c : Candidate) → Contains (file_merges fields.pick level files next) c → IsMergeOf files c.plan
  each_named level files next =
      sorted_named (file_cmp fields.pick next) level range_of files files next (files_come_in_order fields.pick next files).same (λ file there. there)

  -- of a level above the last
  abbrev IsMergeIn : ℕ → List FileFacts → Plan → Type 0
  IsMergeIn level files plan = (level < fields.levels) × IsMergeOf files plan

  expired_named : (clock level : ℕ) (files next : List FileFacts) (c : Candidate) → Contains (timed_merges fields clock level files next) c → IsMergeIn level files c.plan
  expired_named clock level files next c there = by (nat_lt level fields.levels) refl there
    where
      by : (b : Bool) → nat_lt level fields.levels ≡ b → Contains (cond b (expired_merges fields clock level files next) []) c → IsMergeIn level files c.plan
      by true timed there = (
        ltb-true level fields.levels timed,
        sorted_named expired_cmp level (sources_keys level files) (filter (is_expired fields clock level) files) files next (expired_come_in_order fields clock level files).same
            (λ file inside. (from_filter (is_expired fields clock level) files file inside).0) c there,
      )
      by false timed there = absurd (none_in c there)

  low : 0 < fields.levels → (level : ℕ) (files : List FileFacts) → is_saturated fields level files ≡ true → level < fields.levels
  low some level files full = grind (arith, nat_tests)

  level_named : 0 < fields.levels → (level : ℕ) (files next : List FileFacts) (c : Candidate) → Contains (level_merges fields level files next) c → IsMergeIn level files c.plan
  level_named some level files next c there = by (is_saturated fields level files) refl there
    where
      merges : (b : Bool) → Contains (cond b (whole_merges files next) (file_merges fields.pick level files next)) c → IsMergeOf files c.plan
      merges true there = whole_named files next c there
      merges false there = each_named level files next c there

      by : (b : Bool) → is_saturated fields level files ≡ b → Contains (cond b (cond (eqb level 0) (whole_merges files next) (file_merges fields.pick level files next)) []) c → IsMergeIn level files c.plan
      by true full there = (low some level files full, merges (eqb level 0) there)
      by false full there = absurd (none_in c there)

-- Sweeps

swept_named : (place level : ℕ) (files : List FileFacts) (c : Candidate) → Contains (sweeps_in place level files) c → IsSweepOf place files c.plan
swept_named place level files c there =
    let kept = filter (is_unswept place) files in
    let sorted = sorted_by expired_cmp kept in
    let from = map_from (sweep_of place level) sorted c there in
    let within = from_filter (is_unswept place) files from.0 (Contains-permutation sorted kept from.0 (IsPermutation-sym kept sorted (sweeps_come_in_order place files).same) from.1) in
    (from.0, within.0, ap (λ (c : Candidate). c.plan.file) from.2, ltb-true from.0.swept place within.1, sym (ap (λ (c : Candidate). c.plan.erase) from.2))

-- Plans

-- for a merge it names a stored file above the last level
pub record IsMergeAmong (levels : ℕ) (files : List StoredFile) (plan : Plan) : Type 0 where
  pub file : StoredFile
  pub there : Contains files file
  pub low : file.level < levels
  pub number : file.header.no ≡ plan.file
  pub no_erase : plan.erase ≡ None

-- for a sweep it names the first of the erases, and a stored file that isn't swept of that one
pub record IsSweepAmong (files : List StoredFile) (erases : List Pending) (plan : Plan) : Type 0 where
  pub erase : Pending
  pub later : List Pending
  pub first : erases ≡ erase ∷ later
  pub place : plan.erase ≡ Some erase.seq
  pub file : StoredFile
  pub there : Contains files file
  pub number : file.header.no ≡ plan.file
  pub unswept : file.swept < erase.seq

abbrev pub IsKnown : ℕ → List StoredFile → List Pending → Plan → Type 0
IsKnown levels files erases plan = IsMergeAmong levels files plan ⊎ IsSweepAmong files erases plan

-- the facts of a level's file are those of a stored one
stored_at : (files : List StoredFile) (level : ℕ) (facts : FileFacts) → Contains (facts_at files level) facts
    → (file : StoredFile) × Contains files file × (file.level ≡ level) × (facts_of level file.swept file.header ≡ facts)
stored_at files level facts there =
    let from = map_from (λ (file : StoredFile). facts_of level file.swept file.header) (of_level files level) facts there in
    let at = from_level files level from.0 from.1 in
    (from.0, at.0, at.1, from.2)

module _ (fields : Fields) (files : List StoredFile) where
  abbrev levels_in : List (List FileFacts)
  levels_in = map (facts_at files) (range_with_len 0 (fields.levels + 1))

  merge_known : (lists : Lists) → AreNamed (IsMergeIn fields) lists → (c : Candidate) → Contains (merges_from lists 0 levels_in) c → IsMergeAmong fields.levels files c.plan
  merge_known lists named c there =
      let found = shape_named (IsMergeIn fields) fields.levels files c (levels_named (IsMergeIn fields) lists named 0 levels_in c there) in
      let above = found.1.0 in
      let merge = found.1.1 in
      let from = stored_at files found.0 merge.0.0 merge.0.1 in
      let same = from.2 in
      record {
        file = from.0;
        there = from.1;
        low = omega (arith, same, above);
        number = ap (λ (facts : FileFacts). facts.no) from.3 ∙ merge.0.2;
        no_erase = merge.1;
      }

  sweep_known : (erases : List Pending) (c : Candidate) → Contains (sweeps (shape_of fields.levels files erases)) c → IsSweepAmong files erases c.plan
  sweep_known [] c there = absurd (none_in c there)
  sweep_known (erase ∷ later) c there =
      let Named : ℕ → List FileFacts → Plan → Type 0 = λ level. IsSweepOf erase.seq in
      let lists : Lists = λ level own next. sweeps_in erase.seq level own in
      let found = shape_named Named fields.levels files c (levels_named Named lists (λ level own next c inside. swept_named erase.seq level own c inside) 0 levels_in c there) in
      let sweep = found.1 in
      let from = stored_at files found.0 sweep.0 sweep.1 in
      let same = ap (λ (facts : FileFacts). facts.swept) from.3 in
      let before = sweep.3 in
      record {
        erase = erase;
        later = later;
        first = refl;
        place = sweep.4;
        file = from.0;
        there = from.1;
        number = ap (λ (facts : FileFacts). facts.no) from.3 ∙ sweep.2;
        unswept = omega (arith, same, before);
      }

  expired_known : (clock : ℕ) (erases : List Pending) (c : Candidate) → Contains (expired fields clock (shape_of fields.levels files erases)) c → IsMergeAmong fields.levels files c.plan
  expired_known clock erases c there = merge_known (timed_merges fields clock) (expired_named fields clock) c there

  full_known : 0 < fields.levels → (erases : List Pending) (c : Candidate) → Contains (candidates fields (shape_of fields.levels files erases)) c → IsMergeAmong fields.levels files c.plan
  full_known some erases c there = merge_known (level_merges fields) (level_named fields some) c there

  overdue_in : (b : Bool) (all : List Candidate) (c : Candidate) → Contains (cond b all []) c → Contains all c
  overdue_in true all c there = there
  overdue_in false all c there = absurd (none_in c there)

  planned : (erases : List Pending) (plan : Plan) (o : Option Candidate) → ((c : Candidate) → o ≡ Some c → IsKnown fields.levels files erases c.plan)
      → option_map (λ (c : Candidate). c.plan) o ≡ Some plan → IsKnown fields.levels files erases plan
  planned erases plan None known is = absurd cc
  planned erases plan (Some c) known is = let same : c.plan ≡ plan = cc in subst (IsKnown fields.levels files erases) same (known c refl)

  pub due_known : (erases : List Pending) (to : ℕ) (plan : Plan) → due fields (shape_of fields.levels files erases) to ≡ Some plan → IsKnown fields.levels files erases plan
  due_known erases to plan =
      let shape : Shape = shape_of fields.levels files erases in
      let all : List Candidate = expired fields to shape ++ overdue_sweeps fields to shape in
      planned erases plan (slice_get all 0) (λ c found. ⊎_elim
      (λ early. inl (expired_known to erases c early))
      (λ late. inr (sweep_known erases c (overdue_in (is_overdue fields to erases) (sweeps shape) c late)))
      (Contains-append_cases (expired fields to shape) (overdue_sweeps fields to shape) c (first_in all c found)))

  pub chosen_known : 0 < fields.levels → (erases : List Pending) (clock : ℕ) (plan : Plan) → choice fields (shape_of fields.levels files erases) clock [] ≡ Some plan → IsKnown fields.levels files erases plan
  chosen_known some erases clock plan =
      let shape : Shape = shape_of fields.levels files erases in
      let rest : List Candidate = sweeps shape ++ candidates fields shape in
      planned erases plan (find (is_free []) (expired fields clock shape ++ rest)) (λ c found. ⊎_elim
      (λ early. inl (expired_known clock erases c early))
      (λ behind. ⊎_elim (λ swept. inr (sweep_known erases c swept)) (λ late. inl (full_known some erases c late)) (Contains-append_cases (sweeps shape) (candidates fields shape) c behind))
      (Contains-append_cases (expired fields clock shape) rest c (find_some (is_free []) (expired fields clock shape ++ rest) c found).0))

pub has_level : (levels number : ℕ) (files : List StoredFile) (file : StoredFile) → Contains files file → file.level < levels → file.header.no ≡ number → IsSome (job.level_named levels number files)
has_level levels number files file there low named =
    let less : ltb file.level levels ≡ true = grind (arith, nat_tests) in
    let found = find_there (is_named levels number) files file there (and_from (ltb file.level levels) (eqb file.header.no number) less (eq-eqb file.header.no number named)) in
    ap (λ o. is_some (option_map (λ (file : StoredFile). file.level) o)) found.1

-- The two laws

known_named : (levels : ℕ) (files : List StoredFile) → All (λ file. file.level ≤ levels) files → (erases : List Pending) (plan : Plan) → IsKnown levels files erases plan
    → IsNamedBy levels files erases plan.file plan.erase
known_named levels files low erases plan (inl merge) =
    subst (IsNamedBy levels files erases plan.file) (sym merge.no_erase) (has_level levels plan.file files merge.file merge.there merge.low merge.number)
known_named levels files low erases plan (inr sweep) =
    let among : Contains erases sweep.erase = subst (λ l. Contains l sweep.erase) (sym sweep.first) (first_is sweep.erase sweep.later sweep.erase refl) in
    subst (IsNamedBy levels files erases plan.file) (sym sweep.place) (
      any_from (λ (file : StoredFile). (file.header.no ≡ plan.file) × (file.level ≤ levels)) files sweep.file sweep.there
          (sweep.number, All-contains (λ (file : StoredFile). file.level ≤ levels) files sweep.file low sweep.there),
      any_from (λ (erase : Pending). erase.seq ≡ sweep.erase.seq) erases sweep.erase among refl,
    )

known_in : (s : Stored) (plan : Plan) → IsKnown s.manifest.config.levels s.files (left_erases (layout_of s)) plan → IsPlanIn s plan.file plan.erase
known_in s plan (inl merge) = subst (IsPlanIn s plan.file) (sym merge.no_erase) tt
known_in s plan (inr sweep) = subst (IsPlanIn s plan.file) (sym sweep.place) (record {
  erase = sweep.erase;
  later = sweep.later;
  first = sweep.first;
  place_is = refl;
  file = sweep.file;
  there = sweep.there;
  number_is = sweep.number;
  unswept = sweep.unswept;
})

pub chosen_is_named : (config : Fields) → 0 < config.levels → (files : List StoredFile) → All (λ file. file.level ≤ config.levels) files → (erases : List Pending) (clock : ℕ) (plan : Plan)
    → choice config (shape_of config.levels files erases) clock [] ≡ Some plan → IsNamedBy config.levels files erases plan.file plan.erase
chosen_is_named config some files low erases clock plan is = known_named config.levels files low erases plan (chosen_known config files some erases clock plan is)

pub due_is_named : (config : Fields) (files : List StoredFile) → All (λ file. file.level ≤ config.levels) files → (erases : List Pending) (to : ℕ) (plan : Plan)
    → due config (shape_of config.levels files erases) to ≡ Some plan → IsNamedBy config.levels files erases plan.file plan.erase
due_is_named config files low erases to plan is = known_named config.levels files low erases plan (due_known config files erases to plan is)

module _ (s : Stored) (coherent : IsCoherent s) (plan : Plan) where
  abbrev config : Fields
  config = s.manifest.config

  pub chosen_in_store : choice config (due_shape (layout_of s)) s.manifest.clock [] ≡ Some plan → IsPlanIn s plan.file plan.erase
  chosen_in_store is =
      let some = coherent.spelled.config.levels in
      known_in s plan (chosen_known config s.files (omega (arith, some)) (left_erases (layout_of s)) s.manifest.clock plan
      (ap (λ (shape : Shape). choice config shape s.manifest.clock []) (sym (due_shape_same s coherent)) ∙ is))

  pub due_in_store : (to : ℕ) → due config (due_shape (layout_of s)) to ≡ Some plan → IsPlanIn s plan.file plan.erase
  due_in_store to is =
      known_in s plan (due_known config s.files (left_erases (layout_of s)) to plan (ap (λ (shape : Shape). due config shape to) (sym (due_shape_same s coherent)) ∙ is))
