-- Where no job is due at a time no file is expired, and where an erase is overdue then, each file is swept of it.
use Rattle.std.proofs.Common.{◌≡◌, ℕ, ◌+◌, ◌<◌, ◌≤◌, Bool, true, false, cond, List, [], ◌∷◌, ◌++◌, map, filter, length, Contains, IsPermutation, Option, Some, None, IsSomeAnd, refl, sym, ap, ◌∙◌, subst, arith}
use Rattle.std.specs.Prelude.{nat_lt, slice_get, option_map, flat_map}
use Rattle.std.proofs.lemmas.Bool.{leb-false, lt-ltb}
use Rattle.std.proofs.lemmas.Bool.Decides.{nat_tests}
use Rattle.std.proofs.lemmas.List.{length-map}
use Rattle.std.proofs.lemmas.List.Elements.{Contains-append_cases}
use Rattle.std.proofs.lemmas.List.Sorted.{length_permutation}
use Rattle.lethe_base.specs.Layout.{File}
use Rattle.lethe_base.specs.Shapes.{facts_from, facts_of}
use Rattle.lethe_base.specs.declared.config.Fields.{Fields}
use Rattle.lethe_base.specs.declared.shape.FileFacts.{FileFacts}
use Rattle.lethe_base.proofs.LayoutLaws.{none_in}
use Rattle.lethe_cover.proofs.Common.{⊎_elim}
use Rattle.lethe_cover.proofs.Lists.{in_map, map_from}
use Rattle.lethe_fade.specs.Candidates.{Candidate, first_files, merge_named}
use Rattle.lethe_fade.specs.Expired.{expired_cmp, expired_from, expired_merges, is_expired, is_passed, sources_keys}
use Rattle.lethe_fade.specs.LevelTimes.{level_deadline}
use Rattle.lethe_fade.specs.Ranks.{sorted_by}
use Rattle.lethe_fade.specs.Sweeps.{is_unswept, sweep_of, sweeps_from, sweeps_in}
use Rattle.lethe_fade.proofs.OrderLaws.{expired_come_in_order, sweeps_come_in_order}
use Rattle.lethe_moves.specs.Due.{IsExpired}
use Rattle.lethe_stored.proofs.Leveled.{in_filter}

-- Jobs

pub no_first : (jobs : List Candidate) → option_map (λ (c : Candidate). c.plan) (slice_get jobs 0) ≡ None → jobs ≡ []
no_first [] none = refl
no_first (job ∷ jobs) none = absurd (let clash : Some job.plan ≡ None = none in cc)

pub both_empty : (xs ys : List Candidate) → xs ++ ys ≡ [] → (xs ≡ []) × (ys ≡ [])
both_empty [] ys none = (refl, none)
both_empty (x ∷ xs) ys none = absurd (let clash : x ∷ (xs ++ ys) ≡ [] = none in cc)

-- where those files that pass a test give no job, none passes it
none_passes : (passes : FileFacts → Bool) (job : FileFacts → Candidate) (files : List FileFacts)
    → IsPermutation (filter passes files) (sorted_by expired_cmp (filter passes files))
    → map job (sorted_by expired_cmp (filter passes files)) ≡ [] → (file : FileFacts) → Contains files file → passes file ≡ false
none_passes passes job files same none file there = by (passes file) refl
  where
    by : (b : Bool) → passes file ≡ b → passes file ≡ false
    by false is = is
    by true is =
        let here = in_filter passes files file there is in
        let sorted = length_permutation (filter passes files) (sorted_by expired_cmp (filter passes files)) same in
        let jobs = length-map (sorted_by expired_cmp (filter passes files)) job in
        absurd (omega (arith, here.1, sorted, jobs, ap (length {A = Candidate}) none))

-- Expired files

not_passed : (fields : Fields) (clock level : ℕ) (time : Option ℕ) → is_passed fields clock level time ≡ false
    → IsSomeAnd time (λ oldest. oldest + level_deadline fields level ≤ clock) → ⊥
not_passed fields clock level None is passed = absurd passed
not_passed fields clock level (Some time) is passed = absurd (let later = leb-false (time + level_deadline fields level) clock is in omega (arith, later, passed))

-- no file of the levels, the first of which has that number, is expired
pub none_expired : (fields : Fields) (clock first : ℕ) (levels : List (List File)) → expired_from fields clock first (facts_from first levels) ≡ []
    → (file : FileFacts) → Contains (flat_map (λ files. files) (facts_from first levels)) file → file.level < fields.levels → IsExpired fields clock file → ⊥
none_expired fields clock first [] none file there above = absurd (none_in file there)
none_expired fields clock first (files ∷ deeper) none file there above =
    let split = both_empty (timed (nat_lt first fields.levels)) (expired_from fields clock (first + 1) behind) none in
    ⊎_elim (λ own. at_level own split.0) (λ below. none_expired fields clock (first + 1) deeper split.1 file below above)
    (Contains-append_cases facts (flat_map (λ files. files) behind) file there)
  where
    facts : List FileFacts
    facts = map (facts_of first) files

    behind : List (List FileFacts)
    behind = facts_from (first + 1) deeper

    timed : Bool → List Candidate
    timed has = cond has (expired_merges fields clock first facts (first_files behind)) []

    merge_of : FileFacts → Candidate
    merge_of file = merge_named file.no first (sources_keys first facts file) (first_files behind)

    at_level : Contains facts file → timed (nat_lt first fields.levels) ≡ [] → IsExpired fields clock file → ⊥
    at_level own empty =
        let level : first ≡ file.level = ap (λ (f : FileFacts). f.level) (map_from (facts_of first) files file own).2 in
        let has : nat_lt first fields.levels ≡ true = lt-ltb first fields.levels (omega (arith, level, above)) in
        let young = none_passes (is_expired fields clock first) merge_of facts (expired_come_in_order fields clock first facts).same (sym (ap timed has) ∙ empty) file own in
        subst (λ n. IsSomeAnd file.oldest (λ oldest. oldest + level_deadline fields n ≤ clock) → ⊥) level (not_passed fields clock first file.oldest young)

-- Files that are still to be swept

-- each file of the levels, the first of which has that number, is swept up to the place
pub all_swept : (place first : ℕ) (levels : List (List File)) → sweeps_from place first (facts_from first levels) ≡ []
    → (file : File) → Contains (flat_map (λ files. files) levels) file → place ≤ file.swept
all_swept place first [] none file there = absurd (none_in file there)
all_swept place first (files ∷ deeper) none file there =
    let split = both_empty (sweeps_in place first facts) (sweeps_from place (first + 1) (facts_from (first + 1) deeper)) none in
    ⊎_elim (λ own. at_level own split.0) (λ below. all_swept place (first + 1) deeper split.1 file below)
    (Contains-append_cases files (flat_map (λ files. files) deeper) file there)
  where
    facts : List FileFacts
    facts = map (facts_of first) files

    at_level : Contains files file → sweeps_in place first facts ≡ [] → place ≤ file.swept
    at_level own empty =
        let swept : nat_lt file.swept place ≡ false =
        none_passes (is_unswept place) (sweep_of place first) facts (sweeps_come_in_order place facts).same empty (facts_of first file) (in_map (facts_of first) files file own) in
        grind (arith, nat_tests)
