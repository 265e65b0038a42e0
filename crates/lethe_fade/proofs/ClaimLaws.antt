-- In a shape whose files have distinct numbers each candidate's claim is the one of its plan.
use Rattle.std.proofs.Common.{IsTrue, ◌≡◌, ◌⊎◌, inl, inr, ℕ, suc, ◌+◌, ◌<◌, min, Bool, true, false, not, cond, List, [], ◌∷◌, ◌++◌, length, get_or, fold, map, Option, Some, None, refl, sym, ap, ◌∙◌, arith}
use Rattle.std.specs.Prelude.{◌≢◌, ◌==◌, ◌≤◌, nat_le, nat_lt, flat_map}
use Rattle.std.proofs.lemmas.Bool.{leb-true, leb-false}
use Rattle.std.proofs.lemmas.Bool.Decides.{nat_tests}
use Rattle.std.proofs.lemmas.List.Concat.{flat_map-cons}
use Rattle.std.specs.List.{filter, find, list_any, AllPairs}
use Rattle.std.specs.Option.{option_map, is_some}
use Rattle.std.specs.declared.cmp.Ordering.{Ordering}
use Rattle.std.specs.declared.cmp.Ordering.TheVariants.{Less, Equal, Greater}
use Rattle.std.specs.Ordering.{ordering_reverse, is_lt, is_le, is_gt}
use Rattle.std.specs.Cmp.Lexicographic.{nat_list_cmp_total}
use Rattle.lethe_base.specs.Keys.{Bytes, key_cmp}
use Rattle.lethe_base.specs.Shapes.{HasOtherNumber, HasRange, IsValidShape, all_files}
use Rattle.lethe_base.specs.declared.config.Fields.{Fields}
use Rattle.lethe_base.specs.declared.config.Pick.{Pick}
use Rattle.lethe_base.specs.declared.pending.Pending.{Pending}
use Rattle.lethe_base.specs.declared.shape.FileFacts.{FileFacts}
use Rattle.lethe_base.specs.declared.shape.Shape.{Shape}
use Rattle.lethe_fade.specs.declared.claim.Claim.{Claim}
use Rattle.lethe_fade.specs.declared.plan.Plan.{Plan}
use Rattle.lethe_fade.specs.Saturation.{is_saturated}
use Rattle.lethe_fade.specs.Spans.{KeyRange, range_of, joined, hull, hull_of, overlapping}
use Rattle.lethe_fade.specs.Claims.{meets, IsProper, merge_claim}
use Rattle.lethe_fade.specs.Ranks.{with_item, sorted_by, file_cmp}
use Rattle.lethe_fade.specs.Candidates.{Candidate, first_files, is_free, merge_named, merges_from}
use Rattle.lethe_fade.specs.Expired.{expired, expired_cmp, expired_merges, is_expired, sources_keys}
use Rattle.lethe_fade.specs.Sweeps.{is_unswept, sweep_of, sweeps, sweeps_in, sweeps_of}
use Rattle.lethe_fade.specs.Choice.{whole_merges, file_merges, level_merges, candidates, choice}
use Rattle.lethe_fade.proofs.Oldest.{jobs_of}
use Rattle.lethe_fade.proofs.Expiring.{timed_merges}
use Rattle.lethe_fade.proofs.MeetingLaws.{key_upto, key_itself}
use Rattle.lethe_fade.specs.Claimed.{job_claim, claim_in, IsFreePlan, ChoiceIsFree}

-- P holds of each item
abbrev Each : {X : Type 0} → (X → Type 0) → List X → Type 0
Each P [] = Unit {0}
Each P (x ∷ xs) = P x × Each P xs

each_append : {X : Type 0} (P : X → Type 0) (xs ys : List X) → Each P xs → Each P ys → Each P (xs ++ ys)
each_append P [] ys h k = k
each_append P (x ∷ xs) ys h k = (h.0, each_append P xs ys h.1 k)

each_parts : {X : Type 0} (P : X → Type 0) (xs ys : List X) → Each P (xs ++ ys) → Each P xs × Each P ys
each_parts P [] ys h = (tt, h)
each_parts P (x ∷ xs) ys h = let rest = each_parts P xs ys h.1 in ((h.0, rest.0), rest.1)

each_map : {X Y : Type 0} (P : Y → Type 0) (f : X → Y) (xs : List X) → Each (λ x. P (f x)) xs → Each P (map f xs)
each_map P f [] h = tt
each_map P f (x ∷ xs) h = (h.0, each_map P f xs h.1)

each_weaker : {X : Type 0} (P Q : X → Type 0) (xs : List X) → ((x : X) → P x → Q x) → Each P xs → Each Q xs
each_weaker P Q [] f h = tt
each_weaker P Q (x ∷ xs) f h = (f x h.0, each_weaker P Q xs f h.1)

each_both : {X : Type 0} (P Q : X → Type 0) (xs : List X) → Each P xs → Each Q xs → Each (λ x. P x × Q x) xs
each_both P Q [] h k = tt
each_both P Q (x ∷ xs) h k = ((h.0, k.0), each_both P Q xs h.1 k.1)

each_with : {X : Type 0} (P : X → Type 0) (cmp : X → X → Ordering) (x : X) (ys : List X) → P x → Each P ys → Each P (with_item cmp x ys)
each_with P cmp x [] h k = (h, tt)
each_with P cmp x (y ∷ ys) h k = by_test (is_gt (cmp x y)) (each_with P cmp x ys h k.1)
  where
    by_test : (b : Bool) → Each P (with_item cmp x ys) → Each P (cond b (y ∷ with_item cmp x ys) (x ∷ (y ∷ ys)))
    by_test true rest = (k.0, rest)
    by_test false rest = (h, k)

each_sorted : {X : Type 0} (P : X → Type 0) (cmp : X → X → Ordering) (xs : List X) → Each P xs → Each P (sorted_by cmp xs)
each_sorted P cmp [] h = tt
each_sorted P cmp (x ∷ xs) h = each_with P cmp x (sorted_by cmp xs) h.0 (each_sorted P cmp xs h.1)

each_filter : {X : Type 0} (P : X → Type 0) (p : X → Bool) (xs : List X) → Each P xs → Each P (filter p xs)
each_filter P p [] h = tt
each_filter P p (x ∷ xs) h = by_test (p x) (each_filter P p xs h.1)
  where
    by_test : (b : Bool) → Each P (filter p xs) → Each P (cond b (x ∷ filter p xs) (filter p xs))
    by_test true rest = (h.0, rest)
    by_test false rest = rest

-- what is found is one of the items, and passes
found_is : {X : Type 0} (P : X → Type 0) (p : X → Bool) (xs : List X) (x : X) → Each P xs → find p xs ≡ Some x → P x × (p x ≡ true)
found_is P p [] x h e = absurd cc
found_is P p (y ∷ ys) x h e = by_test (p y) refl (found_is P p ys x h.1) e
  where
    by_test : (b : Bool) → p y ≡ b → (find p ys ≡ Some x → P x × (p x ≡ true)) → cond b (Some y) (find p ys) ≡ Some x → P x × (p x ≡ true)
    by_test true t rest e = let same : y ≡ x = cc in rw (← same) (h.0, t)
    by_test false t rest e = rest e

-- files with distinct numbers, by recursion
abbrev Distinct : List FileFacts → Type 0
Distinct [] = Unit {0}
Distinct (file ∷ files) = Each (HasOtherNumber file) files × Distinct files

each_from : {X : Type 0} (P : X → Type 0) (xs : List X) → ((i : ℕ) (d : X) → i < length xs → P (get_or xs i d)) → Each P xs
each_from P [] h = tt
each_from P (x ∷ xs) h = (h 0 x (omega arith), each_from P xs (λ i d lt. h (suc i) d (omega arith)))

distinct_from : (files : List FileFacts) → AllPairs HasOtherNumber files → Distinct files
distinct_from [] h = tt
distinct_from (file ∷ files) h =
    (each_from (HasOtherNumber file) files (λ i d lt. h 0 (suc i) d (omega arith) (omega arith)), distinct_from files (λ i j d lt k. h (suc i) (suc j) d (omega arith) (omega arith)))

distinct_parts : (files others : List FileFacts) → Distinct (files ++ others) → Distinct files × (Each (λ file. Each (HasOtherNumber file) others) files × Distinct others)
distinct_parts [] others h = (tt, (tt, h))
distinct_parts (file ∷ files) others h =
    let here = each_parts (HasOtherNumber file) files others h.0 in
    let rest = distinct_parts files others h.1 in
    ((here.0, rest.0), ((here.1, rest.1.0), rest.1.1))

-- the file of a number
abbrev numbered : ℕ → List FileFacts → Option FileFacts
numbered number files = find (λ file. file.no == number) files

other_test : (m n : ℕ) → m ≢ n → (m == n) ≡ false
other_test m n h = grind (arith, nat_tests)

same_test : (n : ℕ) → (n == n) ≡ true
same_test n = grind (arith, nat_tests)

test_is : (m n : ℕ) → (m == n) ≡ true → m ≡ n
test_is m n h = grind (arith, nat_tests)

numbered-own : (files : List FileFacts) → Distinct files → Each (λ file. numbered file.no files ≡ Some file) files
numbered-own [] h = tt
numbered-own (x ∷ xs) h = (
  rw (same_test x.no) refl,
  each_weaker (λ y. HasOtherNumber x y × (numbered y.no xs ≡ Some y)) (λ y. numbered y.no (x ∷ xs) ≡ Some y) xs (λ y k. rw (other_test x.no y.no k.0) k.1)
      (each_both (HasOtherNumber x) (λ y. numbered y.no xs ≡ Some y) xs h.0 (numbered-own xs h.1)),
)

numbered-none : (number : ℕ) (files : List FileFacts) → Each (λ file. file.no ≢ number) files → numbered number files ≡ None
numbered-none number [] h = refl
numbered-none number (x ∷ xs) h = rw (other_test x.no number h.0) (numbered-none number xs h.1)

-- the least number is one of the numbers
abbrev IsFound : ℕ → List FileFacts → Type 0
IsFound number files = is_some (numbered number files) ≡ true

abbrev least_number : ℕ → List FileFacts → ℕ
least_number number files = fold (λ least file. min least file.no) number files

found_behind : (b : Bool) (x : FileFacts) (rest : Option FileFacts) → is_some rest ≡ true → is_some (cond b (Some x) rest) ≡ true
found_behind true x rest h = refl
found_behind false x rest h = h

either_min : (m n : ℕ) → (min m n ≡ m) ⊎ (min m n ≡ n)
either_min m n = by_test (nat_le m n) refl
  where
    by_test : (b : Bool) → nat_le m n ≡ b → (min m n ≡ m) ⊎ (min m n ≡ n)
    by_test true e = inl (let le : m ≤ n = leb-true m n e in omega arith)
    by_test false e = inr (let lt : n < m = leb-false m n e in omega arith)

least_found : (n : ℕ) (files : List FileFacts) → (least_number n files ≡ n) ⊎ IsFound (least_number n files) files
least_found n [] = inl refl
least_found n (x ∷ xs) = by_rest (least_found (min n x.no) xs) (either_min n x.no)
  where
    by_rest : (least_number (min n x.no) xs ≡ min n x.no) ⊎ IsFound (least_number (min n x.no) xs) xs → (min n x.no ≡ n) ⊎ (min n x.no ≡ x.no)
        → (least_number (min n x.no) xs ≡ n) ⊎ IsFound (least_number (min n x.no) xs) (x ∷ xs)
    by_rest (inr found) m = inr (found_behind (x.no == least_number (min n x.no) xs) x (numbered (least_number (min n x.no) xs) xs) found)
    by_rest (inl e) (inl m) = inl (e ∙ m)
    by_rest (inl e) (inr m) = inr (rw (e, m, same_test x.no) refl)

least_is_found : (first : FileFacts) (others : List FileFacts) → IsFound (least_number first.no others) (first ∷ others)
least_is_found first others = by_rest (least_found first.no others)
  where
    by_rest : (least_number first.no others ≡ first.no) ⊎ IsFound (least_number first.no others) others → IsFound (least_number first.no others) (first ∷ others)
    by_rest (inl e) = rw (e, same_test first.no) refl
    by_rest (inr found) = found_behind (first.no == least_number first.no others) first (numbered (least_number first.no others) others) found

-- a candidate of a level has the claim of its plan there
abbrev IsClaimedHere : ℕ → List FileFacts → List FileFacts → Candidate → Type 0
IsClaimedHere level files next c = option_map (job_claim c.plan.erase level files next) (numbered c.plan.file files) ≡ Some c.claim

mapped_alike : (g : FileFacts → Claim) (claim : Claim) (o : Option FileFacts) → ((file : FileFacts) → g file ≡ claim) → is_some o ≡ true → option_map g o ≡ Some claim
mapped_alike g claim None h some = absurd cc
mapped_alike g claim (Some file) h some = ap Some (h file)

whole_claimed : (level : ℕ) (files next : List FileFacts) → (level == 0) ≡ true → Each (IsClaimedHere level files next) (whole_merges files next)
whole_claimed level [] next t = tt
whole_claimed level (first ∷ others) next t = (
  mapped_alike (job_claim None level (first ∷ others) next) (merge_claim 0 (hull_of (first ∷ others)) next) (numbered (least_number first.no others) (first ∷ others)) (λ file. rw t refl) (least_is_found first others),
  tt,
)

files_claimed : (order : Pick) (level : ℕ) (files next : List FileFacts) → (level == 0) ≡ false → Distinct files → Each (IsClaimedHere level files next) (file_merges order level files next)
files_claimed order level files next t d =
    each_map (IsClaimedHere level files next) (λ file. merge_named file.no level (range_of file) next) (sorted_by (file_cmp order next) files)
    (each_sorted (λ file. IsClaimedHere level files next (merge_named file.no level (range_of file) next)) (file_cmp order next) files
    (each_weaker (λ file. numbered file.no files ≡ Some file) (λ file. IsClaimedHere level files next (merge_named file.no level (range_of file) next)) files (λ file e. rw (e, t) refl) (numbered-own files d)))

level_claimed : (fields : Fields) (level : ℕ) (files next : List FileFacts) → Distinct files → Each (IsClaimedHere level files next) (level_merges fields level files next)
level_claimed fields level files next d = by_tests (is_saturated fields level files) (level == 0) refl
  where
    by_tests : (full first : Bool) → (level == 0) ≡ first → Each (IsClaimedHere level files next) (cond full (cond first (whole_merges files next) (file_merges fields.pick level files next)) [])
    by_tests true true t = whole_claimed level files next t
    by_tests true false t = files_claimed fields.pick level files next t d
    by_tests false first t = tt

-- what holds of the job of each file holds of those of the files that are kept, oldest first
each_job : (P : Candidate → Type 0) (kept : FileFacts → Bool) (job : FileFacts → Candidate) (files : List FileFacts) → Each (λ file. P (job file)) files
    → Each P (jobs_of kept job files)
each_job P kept job files h =
    each_map P job (sorted_by expired_cmp (filter kept files))
    (each_sorted (λ file. P (job file)) expired_cmp (filter kept files) (each_filter (λ file. P (job file)) kept files h))

each_timed : (P : Candidate → Type 0) (fields : Fields) (clock level : ℕ) (files next : List FileFacts) → Each (λ file. P (merge_named file.no level (sources_keys level files file) next)) files
    → Each P (timed_merges fields clock level files next)
each_timed P fields clock level files next h = by_test (nat_lt level fields.levels)
  where
    by_test : (b : Bool) → Each P (cond b (expired_merges fields clock level files next) [])
    by_test true = each_job P (is_expired fields clock level) (λ file. merge_named file.no level (sources_keys level files file) next) files h
    by_test false = tt

-- an expired file of level 0 has the claim of the whole level
expired_claimed : (fields : Fields) (clock level : ℕ) (files next : List FileFacts) → Distinct files → Each (IsClaimedHere level files next) (timed_merges fields clock level files next)
expired_claimed fields clock level files next d =
    each_timed (IsClaimedHere level files next) fields clock level files next
    (each_weaker (λ file. numbered file.no files ≡ Some file) (λ file. IsClaimedHere level files next (merge_named file.no level (sources_keys level files file) next)) files
    (λ file e. rw e (ap Some (by_level file (level == 0) refl))) (numbered-own files d))
  where
    by_level : (file : FileFacts) (first : Bool) → (level == 0) ≡ first
        → cond first (merge_claim 0 (hull_of files) next) (merge_claim level (range_of file) next) ≡ merge_claim level (cond first (hull_of files) (range_of file)) next
    by_level file true t = let zeroth : level ≡ 0 = test_is level 0 t in ap (λ n. merge_claim n (hull_of files) next) (sym zeroth)
    by_level file false t = refl

-- a file that is swept is the one of the plan's number
swept_claimed : (place level : ℕ) (files next : List FileFacts) → Distinct files → Each (IsClaimedHere level files next) (sweeps_in place level files)
swept_claimed place level files next d =
    each_job (IsClaimedHere level files next) (is_unswept place) (sweep_of place level) files
    (each_weaker (λ file. numbered file.no files ≡ Some file) (λ file. IsClaimedHere level files next (sweep_of place level file)) files
    (λ file e. rw e refl) (numbered-own files d))

abbrev flat : List (List FileFacts) → List FileFacts
flat [] = []
flat (files ∷ deeper) = files ++ flat deeper

flat-is : (levels : List (List FileFacts)) → flat_map (λ files. files) levels ≡ flat levels
flat-is [] = refl
flat-is (files ∷ deeper) = flat_map-cons (λ files. files) files deeper ∙ ap (λ rest. files ++ rest) (flat-is deeper)

-- no claim where no file has the number
claim_in-none : (plan : Plan) (level : ℕ) (levels : List (List FileFacts)) → Each (λ file. file.no ≢ plan.file) (flat levels) → claim_in plan level levels ≡ None
claim_in-none plan level [] h = refl
claim_in-none plan level (files ∷ deeper) h =
    let parts = each_parts (λ file. file.no ≢ plan.file) files (flat deeper) h in
    rw (numbered-none plan.file files parts.0) (claim_in-none plan (level + 1) deeper parts.1)

-- the number of a plan that has a claim below is no number of a level above
none_above : (plan : Plan) (level : ℕ) (files : List FileFacts) (deeper : List (List FileFacts)) (claim : Claim) → Each (λ file. Each (HasOtherNumber file) (flat deeper)) files
    → claim_in plan level deeper ≡ Some claim → numbered plan.file files ≡ None
none_above plan level files deeper claim apart is = by_found (numbered plan.file files) refl
  where
    by_found : (o : Option FileFacts) → numbered plan.file files ≡ o → o ≡ None
    by_found None e = refl
    by_found (Some file) e =
        let found = found_is (λ file. Each (HasOtherNumber file) (flat deeper)) (λ file. file.no == plan.file) files file apart e in
        let same : file.no ≡ plan.file = test_is file.no plan.file found.1 in
        let none : claim_in plan level deeper ≡ None =
        claim_in-none plan level deeper (each_weaker (HasOtherNumber file) (λ other. other.no ≢ plan.file) (flat deeper) (λ other differs equal. differs (same ∙ sym equal)) found.0)
        in
        absurd cc

levels_claimed : (merges : ℕ → List FileFacts → List FileFacts → List Candidate) → ((level : ℕ) (files next : List FileFacts) → Distinct files → Each (IsClaimedHere level files next) (merges level files next))
    → (level : ℕ) (levels : List (List FileFacts)) → Distinct (flat levels) → Each (λ c. claim_in c.plan level levels ≡ Some c.claim) (merges_from merges level levels)
levels_claimed merges claimed level [] d = tt
levels_claimed merges claimed level (files ∷ deeper) d =
    let parts = distinct_parts files (flat deeper) d in
    each_append (λ c. claim_in c.plan level (files ∷ deeper) ≡ Some c.claim) (merges level files (first_files deeper)) (merges_from merges (level + 1) deeper)
    (each_weaker (IsClaimedHere level files (first_files deeper)) (λ c. claim_in c.plan level (files ∷ deeper) ≡ Some c.claim) (merges level files (first_files deeper)) (λ c e. rw e refl)
    (claimed level files (first_files deeper) parts.0))
    (each_weaker (λ c. claim_in c.plan (level + 1) deeper ≡ Some c.claim) (λ c. claim_in c.plan level (files ∷ deeper) ≡ Some c.claim) (merges_from merges (level + 1) deeper)
    (λ c e. rw (none_above c.plan (level + 1) files deeper c.claim parts.1.0 e) e) (levels_claimed merges claimed (level + 1) deeper parts.1.1))

-- the ends of a range are in order
abbrev IsRange : KeyRange → Type 0
IsRange range = IsTrue (is_le (key_cmp range.lo range.hi))

abbrev IsProperJob : Candidate → Type 0
IsProperJob c = IsProper c.claim

min_upto : (r : Ordering) (x y : Bytes) → key_cmp y x ≡ r → IsTrue (is_le (key_cmp (cond (is_lt r) y x) x))
min_upto Less x y e = ap is_le e
min_upto Equal x y e = key_itself x
min_upto Greater x y e = key_itself x

upto_max : (r : Ordering) (x y : Bytes) → key_cmp y x ≡ r → IsTrue (is_le (key_cmp x (cond (is_lt r) x y)))
upto_max Less x y e = key_itself x
upto_max Equal x y e = ap is_le (nat_list_cmp_total.antisymm x y ∙ ap ordering_reverse e)
upto_max Greater x y e = ap is_le (nat_list_cmp_total.antisymm x y ∙ ap ordering_reverse e)

joined_range : (a b : KeyRange) → IsRange a → IsRange (joined a b)
joined_range a b h =
    key_upto (joined a b).lo a.lo (joined a b).hi (min_upto (key_cmp b.lo a.lo) a.lo b.lo refl) (key_upto a.lo a.hi (joined a b).hi h (upto_max (key_cmp b.hi a.hi) a.hi b.hi refl))

hull_range : (range : KeyRange) (files : List FileFacts) → IsRange range → IsRange (hull range files)
hull_range range [] h = h
hull_range range (file ∷ files) h = hull_range (joined range (range_of file)) files (joined_range range (range_of file) h)

merge_proper : (level : ℕ) (sources : KeyRange) (next : List FileFacts) → IsRange sources → IsProper (merge_claim level sources next)
merge_proper level sources next h = record { levels = omega arith; keys = hull_range sources (overlapping sources next) h }

level_proper : (fields : Fields) (level : ℕ) (files next : List FileFacts) → Each HasRange files → Each IsProperJob (level_merges fields level files next)
level_proper fields level files next ranges = by_tests (is_saturated fields level files) (level == 0) files ranges
  where
    by_tests : (full first : Bool) (files : List FileFacts) → Each HasRange files
        → Each IsProperJob (cond full (cond first (whole_merges files next) (file_merges fields.pick level files next)) [])
    by_tests true true [] h = tt
    by_tests true true (file ∷ others) h = (merge_proper 0 (hull (range_of file) others) next (hull_range (range_of file) others h.0), tt)
    by_tests true false files h =
        each_map IsProperJob (λ file. merge_named file.no level (range_of file) next) (sorted_by (file_cmp fields.pick next) files)
        (each_sorted (λ file. IsProperJob (merge_named file.no level (range_of file) next)) (file_cmp fields.pick next) files
        (each_weaker HasRange (λ file. IsProperJob (merge_named file.no level (range_of file) next)) files (λ file r. merge_proper level (range_of file) next r) h))
    by_tests false first files h = tt

whole_range : (file : FileFacts) (files : List FileFacts) → Each HasRange files → HasRange file → IsRange (hull_of files)
whole_range file [] h own = refl
whole_range file (first ∷ others) h own = hull_range (range_of first) others h.0

expired_proper : (fields : Fields) (clock level : ℕ) (files next : List FileFacts) → Each HasRange files → Each IsProperJob (timed_merges fields clock level files next)
expired_proper fields clock level files next ranges =
    each_timed IsProperJob fields clock level files next
    (each_weaker HasRange (λ file. IsProperJob (merge_named file.no level (sources_keys level files file) next)) files
    (λ file own. merge_proper level (sources_keys level files file) next (by_level file own (level == 0))) ranges)
  where
    by_level : (file : FileFacts) → HasRange file → (first : Bool) → IsRange (cond first (hull_of files) (range_of file))
    by_level file own true = whole_range file files ranges own
    by_level file own false = own

swept_proper : (place level : ℕ) (files : List FileFacts) → Each HasRange files → Each IsProperJob (sweeps_in place level files)
swept_proper place level files ranges =
    each_job IsProperJob (is_unswept place) (sweep_of place level) files
    (each_weaker HasRange (λ file. IsProperJob (sweep_of place level file)) files (λ file own. record { levels = omega arith; keys = own }) ranges)

levels_proper : (merges : ℕ → List FileFacts → List FileFacts → List Candidate)
    → ((level : ℕ) (files next : List FileFacts) → Each HasRange files → Each IsProperJob (merges level files next))
    → (level : ℕ) (levels : List (List FileFacts)) → Each HasRange (flat levels) → Each IsProperJob (merges_from merges level levels)
levels_proper merges proper level [] h = tt
levels_proper merges proper level (files ∷ deeper) h =
    let parts = each_parts HasRange files (flat deeper) h in
    each_append IsProperJob (merges level files (first_files deeper)) (merges_from merges (level + 1) deeper)
    (proper level files (first_files deeper) parts.0) (levels_proper merges proper (level + 1) deeper parts.1)

sweeps_claimed : (erases : List Pending) (levels : List (List FileFacts)) → Distinct (flat levels) → Each (λ c. claim_in c.plan 0 levels ≡ Some c.claim) (sweeps_of erases levels)
sweeps_claimed [] levels d = tt
sweeps_claimed (erase ∷ later) levels d = levels_claimed (λ level files next. sweeps_in erase.seq level files) (swept_claimed erase.seq) 0 levels d

sweeps_proper : (erases : List Pending) (levels : List (List FileFacts)) → Each HasRange (flat levels) → Each IsProperJob (sweeps_of erases levels)
sweeps_proper [] levels h = tt
sweeps_proper (erase ∷ later) levels h =
    levels_proper (λ level files next. sweeps_in erase.seq level files) (λ level files next ranges. swept_proper erase.seq level files ranges) 0 levels h

no_false : (b : Bool) → not b ≡ true → b ≡ false
no_false true e = absurd cc
no_false false e = refl

module _ (fields : Fields) (shape : Shape) (clock : ℕ) (valid : IsValidShape shape) where
  abbrev behind_expired : List Candidate
  behind_expired = sweeps shape ++ candidates fields shape

  abbrev all : List Candidate
  all = expired fields clock shape ++ behind_expired

  distinct : Distinct (flat shape.levels)
  distinct = rw (← flat-is shape.levels) (distinct_from (all_files shape) valid.numbers)

  ranges : Each HasRange (flat shape.levels)
  ranges = rw (← flat-is shape.levels) (each_from HasRange (all_files shape) valid.ranges)

  abbrev IsClaimed : Candidate → Type 0
  IsClaimed c = claim_in c.plan 0 shape.levels ≡ Some c.claim

  claimed : Each IsClaimed all
  claimed =
      each_append IsClaimed (expired fields clock shape) behind_expired (levels_claimed (timed_merges fields clock) (expired_claimed fields clock) 0 shape.levels distinct)
      (each_append IsClaimed (sweeps shape) (candidates fields shape) (sweeps_claimed shape.erases shape.levels distinct)
      (levels_claimed (level_merges fields) (level_claimed fields) 0 shape.levels distinct))

  proper : Each IsProperJob all
  proper =
      each_append IsProperJob (expired fields clock shape) behind_expired (levels_proper (timed_merges fields clock) (expired_proper fields clock) 0 shape.levels ranges)
      (each_append IsProperJob (sweeps shape) (candidates fields shape) (sweeps_proper shape.erases shape.levels ranges)
      (levels_proper (level_merges fields) (level_proper fields) 0 shape.levels ranges))

  pub all_free : (claims : List Claim) (plan : Plan) → choice fields shape clock claims ≡ Some plan → IsFreePlan shape claims plan
  all_free claims plan chosen = by_found (find (is_free claims) all) refl chosen
    where
      by_found : (o : Option Candidate) → find (is_free claims) all ≡ o → option_map (λ (c : Candidate). c.plan) o ≡ Some plan → IsFreePlan shape claims plan
      by_found None e p = absurd cc
      by_found (Some c) e p =
          let same : c.plan ≡ plan = cc in
          let found = found_is (λ (c : Candidate). IsClaimed c × IsProperJob c) (is_free claims) all c (each_both IsClaimed IsProperJob all claimed proper) e in
          record { claim = c.claim; is = rw (← same) found.0.0; proper = found.0.1; free = no_false (list_any (meets c.claim) claims) found.1 }

pub choice_is_free : ChoiceIsFree
choice_is_free fields shape clock claims plan valid chosen = all_free fields shape clock valid claims plan chosen
