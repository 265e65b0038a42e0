-- What the loops over expired files find, as candidates.
use Rattle.std.proofs.Common.{◌≡◌, ℕ, ◌<◌, Bool, true, false, not, cond, List, [], ◌∷◌, map, Option, Some, None, refl, sym, ap, ◌∙◌, subst, arith}
use Rattle.std.specs.Prelude.{nat_lt, slice_get}
use Rattle.std.specs.List.{filter, find, list_any}
use Rattle.std.specs.Option.{option_map}
use Rattle.std.proofs.lemmas.Bool.{lt-ltb}
use Rattle.std.proofs.lemmas.Bool.Decides.{nat_tests}
use Rattle.lethe_base.specs.declared.config.Fields.{Fields}
use Rattle.lethe_base.specs.declared.shape.FileFacts.{FileFacts}
use Rattle.lethe_fade.specs.declared.claim.Claim.{Claim}
use Rattle.lethe_fade.specs.declared.plan.Plan.{Plan}
use Rattle.lethe_fade.specs.Spans.{KeyRange, hull, range_of}
use Rattle.lethe_fade.specs.Claims.{meets, merge_claim}
use Rattle.lethe_fade.specs.Ranks.{sorted_by}
use Rattle.lethe_fade.specs.Candidates.{Candidate, is_free, merge_named}
use Rattle.lethe_fade.specs.Expired.{expired_cmp, expired_merges, is_expired, sources_keys}
use Rattle.lethe_fade.proofs.Chosen.{is_file_free}
use Rattle.lethe_fade.proofs.Oldest.{jobs_of}

-- Where no claim stands

pub first_free : (candidates : List Candidate) → find (is_free []) candidates ≡ slice_get candidates 0
first_free [] = refl
first_free (candidate ∷ others) = refl

-- The files of a level

-- the merge of the one file
abbrev pub own_merge : ℕ → List FileFacts → FileFacts → Candidate
own_merge level next file = merge_named file.no level (range_of file) next

-- the merges of the expired files, each of the one file
abbrev pub own_merges : Fields → ℕ → ℕ → List FileFacts → List FileFacts → List Candidate
own_merges fields clock level files next = jobs_of (is_expired fields clock level) (own_merge level next) files

pub is_free_file : (level : ℕ) (next : List FileFacts) (claims : List Claim) (file : FileFacts) (sources : KeyRange) (free is : Bool) → sources ≡ range_of file
    → free ≡ not (list_any (meets (merge_claim level sources next)) claims) → free ≡ is
    → is_file_free level next claims file ≡ is
is_free_file level next claims file sources free is same tested e = ap (λ keys. not (list_any (meets (merge_claim level keys next)) claims)) (sym same) ∙ sym tested ∙ e

-- Level 0

first_mapped : (claims : List Claim) (f : FileFacts → Candidate) (files : List FileFacts) → ((file : FileFacts) → is_free claims (f file) ≡ true) → find (is_free claims) (map f files) ≡ slice_get (map f files) 0
first_mapped claims f [] free = refl
first_mapped claims f (file ∷ files) free = rw (free file) refl

none_mapped : (claims : List Claim) (f : FileFacts → Candidate) (files : List FileFacts) → ((file : FileFacts) → is_free claims (f file) ≡ false) → find (is_free claims) (map f files) ≡ None
none_mapped claims f [] taken = refl
none_mapped claims f (file ∷ files) taken = rw (taken file) (none_mapped claims f files taken)

same_plans : (f g : FileFacts → Candidate) (files : List FileFacts) → ((file : FileFacts) → (f file).plan ≡ (g file).plan)
    → option_map (λ (c : Candidate). c.plan) (slice_get (map f files) 0) ≡ option_map (λ (c : Candidate). c.plan) (slice_get (map g files) 0)
same_plans f g [] same = refl
same_plans f g (file ∷ files) same = ap Some (same file)

-- one claim decides for all its files
module _ (fields : Fields) (clock level : ℕ) (files next : List FileFacts) (claims : List Claim) (first : FileFacts) (others : List FileFacts) (zeroth : level ≡ 0)
    (are : files ≡ first ∷ others) (keys : KeyRange) (keys_are : keys ≡ hull (range_of first) others) where
  abbrev merge_of : FileFacts → Candidate
  merge_of file = merge_named file.no level (sources_keys level files file) next

  abbrev sorted : List FileFacts
  sorted = sorted_by expired_cmp (filter (is_expired fields clock level) files)

  whole_test : (file : FileFacts) → is_free claims (merge_of file) ≡ not (list_any (meets (merge_claim 0 keys next)) claims)
  whole_test file = rw (zeroth, are, keys_are) refl

  pub whole_free : not (list_any (meets (merge_claim 0 keys next)) claims) ≡ true
      → option_map (λ (c : Candidate). c.plan) (find (is_free []) (own_merges fields clock 0 files next)) ≡ option_map (λ (c : Candidate). c.plan) (find (is_free claims) (expired_merges fields clock level files next))
  whole_free free =
      subst (λ n. option_map (λ (c : Candidate). c.plan) (find (is_free []) (own_merges fields clock n files next)) ≡ option_map (λ (c : Candidate). c.plan) (find (is_free claims) (expired_merges fields clock level files next))) zeroth
      (ap (option_map (λ (c : Candidate). c.plan)) (first_free (own_merges fields clock level files next))
      ∙ same_plans (λ file. merge_named file.no level (range_of file) next) merge_of sorted (λ file. refl)
      ∙ ap (option_map (λ (c : Candidate). c.plan)) (sym (first_mapped claims merge_of sorted (λ file. whole_test file ∙ free))))

  pub whole_taken : not (list_any (meets (merge_claim 0 keys next)) claims) ≡ false → None ≡ option_map (λ (c : Candidate). c.plan) (find (is_free claims) (expired_merges fields clock level files next))
  whole_taken taken =
      ap (option_map (λ (c : Candidate). c.plan)) (sym (none_mapped claims merge_of sorted (λ file. whole_test file ∙ taken)))

-- The levels

-- a level's merges where it has a time
abbrev pub timed_merges : Fields → ℕ → ℕ → List FileFacts → List FileFacts → List Candidate
timed_merges fields clock level files next = cond (nat_lt level fields.levels) (expired_merges fields clock level files next) []

pub last_untimed : (fields : Fields) (clock : ℕ) (files next : List FileFacts) → timed_merges fields clock fields.levels files next ≡ []
last_untimed fields clock files next =
    let last : nat_lt fields.levels fields.levels ≡ false = grind (arith, nat_tests) in
    rw last refl

pub timed_result : (fields : Fields) (clock level : ℕ) (files next : List FileFacts) (claims : List Claim) (plan : Option Plan) → level < fields.levels
    → plan ≡ option_map (λ (c : Candidate). c.plan) (find (is_free claims) (expired_merges fields clock level files next)) → plan ≡ option_map (λ (c : Candidate). c.plan) (find (is_free claims) (timed_merges fields clock level files next))
timed_result fields clock level files next claims plan timed e =
    let here : nat_lt level fields.levels ≡ true = lt-ltb level fields.levels timed in
    rw here e
