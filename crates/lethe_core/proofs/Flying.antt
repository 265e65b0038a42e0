-- The jobs in flight: the one of a number, the others, and the pages that were written for them.
use Rattle.std.proofs.Common.{◌≡◌, ◌≢◌, ◌⊎◌, ◌↔◌, ◌+◌, ◌<◌, ◌≤◌, ℕ, zero, suc, Bool, true, false, not, cond, ◌&&◌, List, [], ◌∷◌, ◌++◌, map, length, get_or, set, take, drop, Bor, Option, Some, None, Result, Ok, Err, OnOk, OnErr, refl, sym, ap, ◌∙◌, subst, inl, inr, arith}
use Rattle.std.specs.List.{AllWithin, list_all}
use Rattle.std.specs.Option.{option_map_or}
use Rattle.std.specs.Ordering.{is_le}
use Rattle.std.specs.Prelude.{◌==◌, nat_le, All, AllPairs, Contains, HoldsAt, IfSome, IsNone, IsPermutation, MatchOption, filter, find, if◌then◌else◌, option_map, remove}
use Rattle.std.proofs.lemmas.Bool.{cases_order, eq-eqb, eqb-true, ne_eqb}
use Rattle.std.proofs.lemmas.List.Concat.{flat_map-append}
use Rattle.std.proofs.lemmas.List.Elements.{All-append, All-cons, All-drop, All-filter, All-get_or, All-head, All-map, All-nil, All-push, All-set, All-tail, All-take, All-weaker}
use Rattle.std.proofs.lemmas.List.Kept.{AllPairs-cons, AllPairs-filter}
use Rattle.std.proofs.lemmas.List.Quantifiers.{all_pairs_push}
use Rattle.std.proofs.lemmas.List.Sorted.{IsPermutation-append_comm, IsPermutation-append_right}
use Rattle.std.proofs.lemmas.List.{append-nil, append_assoc, drop-map, get_or-map, get_or_default, length-map, map-append, map-set, map_more, set-get_or, take-map, take_all}
use Rattle.lethe_advance.specs.Settled.{names_in}
use Rattle.lethe_base.proofs.Filters.{filter_all, from_filter, in_filter}
use Rattle.lethe_base.specs.Keys.{key_cmp}
use Rattle.lethe_base.specs.declared.name.Name.{Name}
use Rattle.lethe_disk.specs.declared.disk.Disk.{Ghosts}
use Rattle.lethe_fade.specs.Claims.{meets}
use Rattle.lethe_fade.specs.declared.claim.Claim.{Claim}
use Rattle.lethe_follows.specs.Merged.{Beside, Last}
use Rattle.lethe_job.proofs.Listed.{find_some}
use Rattle.lethe_job.specs.Claims.{claim_of_task}
use Rattle.lethe_job.specs.Works.{plain_task}
use Rattle.lethe_stored.proofs.Lists.{all_from}
use Rattle.lethe_tile.proofs.Orders.{pairs_head, pairs_tail}
use Rattle.lethe_core.specs.Flights.{AreClaimed, AreFlights, Flying, company_of, flying_by, flying_of, loose_in, with_pages, with_pages_of, without, written_by}
use Rattle.lethe_core.specs.declared.flight.Flight.{Flight}

-- Another number, and claims that meet either way

not_passes_other : (m n : ℕ) → not (m == n) ≡ true → m ≢ n
not_passes_other m n passes same = let at : not (m == n) ≡ false = ap not (eq-eqb m n same) in let no : false ≡ true = sym at ∙ passes in absurd cc

and_turned : (a b : Bool) → (a && b) ≡ (b && a)
and_turned true true = refl
and_turned true false = refl
and_turned false true = refl
and_turned false false = refl

meets_turned : (a b : Claim) → meets a b ≡ meets b a
meets_turned a b = λ i. and_turned (nat_le a.first b.last) (nat_le b.first a.last) i && and_turned (is_le (key_cmp a.lo b.hi)) (is_le (key_cmp b.lo a.hi)) i

-- What fails a test

module _ {X : Type 0} (p : X → Bool) where
  none_passes : (xs : List X) → find p xs ≡ None → All (λ x. p x ≡ false) xs
  none_passes [] none = All-nil (λ x. p x ≡ false)
  none_passes (y ∷ ys) none = by (p y) refl none (none_passes ys)
    where
      by : (b : Bool) → p y ≡ b → cond b (Some y) (find p ys) ≡ None → (find p ys ≡ None → All (λ x. p x ≡ false) ys) → All (λ x. p x ≡ false) (y ∷ ys)
      by true at none rest = absurd cc
      by false at none rest = All-cons (λ x. p x ≡ false) y ys at (rest none)

  -- those that fail pass its negation
  others_all : (xs : List X) → All (λ x. p x ≡ false) xs → filter (λ x. not (p x)) xs ≡ xs
  others_all xs fail = filter_all (λ x. not (p x)) xs (All-weaker (λ x. p x ≡ false) (λ x. not (p x) ≡ true) (λ x at. ap not at) xs fail)

  -- and stay where only those that pass change
  others_stay : (f : X → X) (xs : List X) → All (λ x. p x ≡ false) xs → map (λ x. if p x then f x else x) xs ≡ xs
  others_stay f [] fail = refl
  others_stay f (x ∷ xs) fail = λ i. (if All-head (λ x. p x ≡ false) x xs fail i then f x else x) ∷ others_stay f xs (All-tail (λ x. p x ≡ false) x xs fail) i

-- A relation of each one with each later one

pairs_map : {X Y : Type 0} (R : X → X → Type 0) (f : Y → X) (ys : List Y) → AllPairs (λ a b. R (f a) (f b)) ys → AllPairs R (map f ys)
pairs_map {Y = Y} R f [] pairs = λ i j d before within. absurd (omega arith)
pairs_map {Y = Y} R f (y ∷ ys) pairs = AllPairs-cons R (f y) (map f ys) (All-map (R (f y)) f ys (pairs_head (λ (a : Y) (b : Y). R (f a) (f b)) y ys pairs)) (pairs_map R f ys (pairs_tail (λ (a : Y) (b : Y). R (f a) (f b)) y ys pairs))

-- of two in the list each is before the other, or they are one
pairs_of : {X : Type 0} (R : X → X → Type 0) (xs : List X) → AllPairs R xs → (a b : X) → Contains xs a → Contains xs b → (a ≡ b) ⊎ (R a b ⊎ R b a)
pairs_of R xs pairs a b a_in b_in = by (cases_order a_in.0 b_in.0)
  where
    by : (a_in.0 ≡ b_in.0) ⊎ ((a_in.0 < b_in.0) ⊎ (b_in.0 < a_in.0)) → (a ≡ b) ⊎ (R a b ⊎ R b a)
    by (inl same) = inl (sym a_in.2 ∙ ap (λ k. get_or xs k a) same ∙ get_or_default xs b_in.0 a b b_in.1 ∙ b_in.2)
    by (inr (inl before)) = inr (inl (subst (λ x. R a x) (get_or_default xs b_in.0 a b b_in.1 ∙ b_in.2) (subst (λ x. R x (get_or xs b_in.0 a)) a_in.2 (pairs a_in.0 b_in.0 a before b_in.1))))
    by (inr (inr after)) = inr (inr (subst (λ x. R b x) (get_or_default xs a_in.0 b a a_in.1 ∙ a_in.2) (subst (λ x. R x (get_or xs a_in.0 b)) b_in.2 (pairs b_in.0 a_in.0 b after a_in.1))))

-- the first job's number is below the others'
later_fail : (number : ℕ) (first : Flying) (flights : List Flying) → AllPairs (λ a b. a.number < b.number) (first ∷ flights) → (first.number == number) ≡ true → All (λ other. (other.number == number) ≡ false) flights
later_fail number first flights ascend passes = All-weaker (λ (other : Flying). first.number < other.number) (λ other. (other.number == number) ≡ false)
    (λ other below. let is : first.number ≡ number = eqb-true first.number number passes in ne_eqb other.number number (λ same. omega (arith, below, is, same)))
    flights (pairs_head (λ (a : Flying) (b : Flying). a.number < b.number) first flights ascend)

-- the job of a number is one of them
pub flying_there : (number : ℕ) (flights : List Flying) (flying : Flying) → flying_by number flights ≡ Some flying → Contains flights flying × (flying.number ≡ number)
flying_there number flights flying is = let at = find_some (λ (flying : Flying). flying.number == number) flights flying is in (at.0, eqb-true flying.number number at.1)

-- and the only one that has it
pub flying_only : (number : ℕ) (flights : List Flying) (flying : Flying) → AreFlights flights → flying_by number flights ≡ Some flying → (other : Flying) → Contains flights other → other.number ≡ number → other ≡ flying
flying_only number flights flying are is other there same =
    let here = flying_there number flights flying is in
    by here.1 (pairs_of (λ (a : Flying) (b : Flying). a.number < b.number) flights are.ascend other flying there here.0)
  where
    by : flying.number ≡ number → (other ≡ flying) ⊎ ((other.number < flying.number) ⊎ (flying.number < other.number)) → other ≡ flying
    by has (inl one) = one
    by has (inr (inl before)) = absurd (omega arith)
    by has (inr (inr after)) = absurd (omega arith)

-- the others are those with another number
pub without_from : (number : ℕ) (flights : List Flying) (other : Flying) → Contains (without number flights) other → Contains flights other × (other.number ≢ number)
without_from number flights other there = let from = from_filter (λ (flying : Flying). not (flying.number == number)) flights other there in (from.0, not_passes_other other.number number from.1)

pub without_in : (number : ℕ) (flights : List Flying) (other : Flying) → Contains flights other → other.number ≢ number → Contains (without number flights) other
without_in number flights other there differs = in_filter (λ (flying : Flying). not (flying.number == number)) flights other there (ap not (ne_eqb other.number number differs))

pub all_without : (P : Flying → Type 0) (number : ℕ) (flights : List Flying) → All P flights → All P (without number flights)
all_without P number flights all = All-filter (λ (flying : Flying). not (flying.number == number)) P flights all

-- the claim of a job meets none of the others
pub apart_without : (number : ℕ) (flights : List Flying) (flying : Flying) → AreFlights flights → flying_by number flights ≡ Some flying
    → All (λ other. meets (claim_of_task flying.task) (claim_of_task other.task) ≡ false) (without number flights)
apart_without number flights flying are is = all_from (λ (other : Flying). meets (claim_of_task flying.task) (claim_of_task other.task) ≡ false) (without number flights) apart
  where
    by : (other : Flying) → flying.number ≡ number → other.number ≢ number → (flying ≡ other) ⊎ ((meets (claim_of_task flying.task) (claim_of_task other.task) ≡ false) ⊎ (meets (claim_of_task other.task) (claim_of_task flying.task) ≡ false))
        → meets (claim_of_task flying.task) (claim_of_task other.task) ≡ false
    by other has differs (inl one) = absurd (differs (sym (ap (λ (flying : Flying). flying.number) one) ∙ has))
    by other has differs (inr (inl at)) = at
    by other has differs (inr (inr at)) = meets_turned (claim_of_task flying.task) (claim_of_task other.task) ∙ at

    apart : (other : Flying) → Contains (without number flights) other → meets (claim_of_task flying.task) (claim_of_task other.task) ≡ false
    apart other there =
        let here = flying_there number flights flying is in
        let from = without_from number flights other there in
        by other here.1 from.1 (pairs_of (λ (a : Flying) (b : Flying). meets (claim_of_task a.task) (claim_of_task b.task) ≡ false) flights are.apart flying other here.0 from.0)

-- what is said of numbers and tasks stays while pages are written
pub all_pages : (P : Flying → Type 0) (number : ℕ) (pages : List (Name × List ℕ)) (flights : List Flying) → ((flying : Flying) → P flying → P (with_pages flying pages)) → All P flights
    → All P (with_pages_of number pages flights)
all_pages P number pages flights stays all = All-map P (λ (flying : Flying). if flying.number == number then with_pages flying pages else flying) flights
    (All-weaker P (λ (flying : Flying). P (if flying.number == number then with_pages flying pages else flying)) (λ flying is. by flying is (flying.number == number)) flights all)
  where
    by : (flying : Flying) → P flying → (b : Bool) → P (if b then with_pages flying pages else flying)
    by flying is true = stays flying is
    by flying is false = is

-- They stay in order and apart

pub flights_without : (number : ℕ) (flights : List Flying) → AreFlights flights → AreFlights (without number flights)
flights_without number flights are = record {
  ascend = AllPairs-filter (λ (a : Flying) (b : Flying). a.number < b.number) (λ flying. not (flying.number == number)) flights are.ascend;
  apart = AllPairs-filter (λ (a : Flying) (b : Flying). meets (claim_of_task a.task) (claim_of_task b.task) ≡ false) (λ flying. not (flying.number == number)) flights are.apart;
}

-- a job's number and task stay
pages_number : (number : ℕ) (pages : List (Name × List ℕ)) (flying : Flying) → (if flying.number == number then with_pages flying pages else flying).number ≡ flying.number
pages_number number pages flying = by (flying.number == number)
  where
    by : (b : Bool) → (if b then with_pages flying pages else flying).number ≡ flying.number
    by true = refl
    by false = refl

pages_task : (number : ℕ) (pages : List (Name × List ℕ)) (flying : Flying) → (if flying.number == number then with_pages flying pages else flying).task ≡ flying.task
pages_task number pages flying = by (flying.number == number)
  where
    by : (b : Bool) → (if b then with_pages flying pages else flying).task ≡ flying.task
    by true = refl
    by false = refl

pub flights_pages : (number : ℕ) (pages : List (Name × List ℕ)) (flights : List Flying) → AreFlights flights → AreFlights (with_pages_of number pages flights)
flights_pages number pages flights are = record {
  ascend = pairs_map (λ (a : Flying) (b : Flying). a.number < b.number) next flights (λ i j d before within. omega (arith, are.ascend i j d before within, pages_number number pages (get_or flights i d), pages_number number pages (get_or flights j d)));
  apart = pairs_map (λ (a : Flying) (b : Flying). meets (claim_of_task a.task) (claim_of_task b.task) ≡ false) next flights (λ i j d before within.
      (λ k. meets (claim_of_task (pages_task number pages (get_or flights i d) k)) (claim_of_task (pages_task number pages (get_or flights j d) k))) ∙ are.apart i j d before within);
}
  where
    next : Flying → Flying
    next flying = if flying.number == number then with_pages flying pages else flying

pub flights_more : (flights : List Flying) (next : Flying) → AreFlights flights → All (λ flying. flying.number < next.number) flights
    → All (λ flying. meets (claim_of_task flying.task) (claim_of_task next.task) ≡ false) flights → AreFlights (flights ++ next ∷ [])
flights_more flights next are later apart = record {
  ascend = all_pairs_push (λ (a : Flying) (b : Flying). a.number < b.number) flights next are.ascend later;
  apart = all_pairs_push (λ (a : Flying) (b : Flying). meets (claim_of_task a.task) (claim_of_task b.task) ≡ false) flights next are.apart apart;
}

pub no_flights : AreFlights []
no_flights = record { ascend = λ i j d before within. absurd (omega arith); apart = λ i j d before within. absurd (omega arith) }

-- Which job has a number then

pub flying_pages : (number : ℕ) (pages : List (Name × List ℕ)) (flights : List Flying) → flying_by number (with_pages_of number pages flights) ≡ option_map (λ flying. with_pages flying pages) (flying_by number flights)
flying_pages number pages [] = refl
flying_pages number pages (first ∷ flights) = by (first.number == number) refl (flying_pages number pages flights)
  where
    by : (b : Bool) → (first.number == number) ≡ b → flying_by number (with_pages_of number pages flights) ≡ option_map (λ flying. with_pages flying pages) (flying_by number flights)
        → cond ((if b then with_pages first pages else first).number == number) (Some (if b then with_pages first pages else first)) (flying_by number (with_pages_of number pages flights)) ≡ option_map (λ flying. with_pages flying pages) (cond b (Some first) (flying_by number flights))
    by true at rest = ap (λ b. cond b (Some (with_pages first pages)) (flying_by number (with_pages_of number pages flights))) at
    by false at rest = ap (λ b. cond b (Some first) (flying_by number (with_pages_of number pages flights))) at ∙ rest

pub flying_pages_other : (number other : ℕ) (pages : List (Name × List ℕ)) (flights : List Flying) → other ≢ number → flying_by other (with_pages_of number pages flights) ≡ flying_by other flights
flying_pages_other number other pages [] differs = refl
flying_pages_other number other pages (first ∷ flights) differs = by (first.number == number) refl (flying_pages_other number other pages flights differs)
  where
    by : (b : Bool) → (first.number == number) ≡ b → flying_by other (with_pages_of number pages flights) ≡ flying_by other flights
        → cond ((if b then with_pages first pages else first).number == other) (Some (if b then with_pages first pages else first)) (flying_by other (with_pages_of number pages flights)) ≡ cond (first.number == other) (Some first) (flying_by other flights)
    by true at rest =
        let has = eqb-true first.number number at in
        let fails = ne_eqb first.number other (λ same. differs (sym same ∙ has)) in
        ap (λ b. cond b (Some (with_pages first pages)) (flying_by other (with_pages_of number pages flights))) fails ∙ rest ∙ sym (ap (λ b. cond b (Some first) (flying_by other flights)) fails)
    by false at rest = ap (cond (first.number == other) (Some first)) rest

pub flying_without : (number other : ℕ) (flights : List Flying) → other ≢ number → flying_by other (without number flights) ≡ flying_by other flights
flying_without number other [] differs = refl
flying_without number other (first ∷ flights) differs = by (first.number == number) refl (flying_without number other flights differs)
  where
    by : (b : Bool) → (first.number == number) ≡ b → flying_by other (without number flights) ≡ flying_by other flights
        → flying_by other (cond (not b) (first ∷ without number flights) (without number flights)) ≡ cond (first.number == other) (Some first) (flying_by other flights)
    by true at rest =
        let has = eqb-true first.number number at in
        let fails = ne_eqb first.number other (λ same. differs (sym same ∙ has)) in
        rest ∙ sym (ap (λ b. cond b (Some first) (flying_by other flights)) fails)
    by false at rest = ap (cond (first.number == other) (Some first)) rest

-- where none has the number, all are the others
pub without_none : (number : ℕ) (flights : List Flying) → flying_by number flights ≡ None → without number flights ≡ flights
without_none number flights none = others_all (λ (flying : Flying). flying.number == number) flights (none_passes (λ (flying : Flying). flying.number == number) flights none)

-- Their pages

-- those of the others, and those of the job
pub loose_parts : (number : ℕ) (flights : List Flying) (flying : Flying) → AreFlights flights → flying_by number flights ≡ Some flying
    → IsPermutation (loose_in (without number flights) ++ flying.written) (loose_in flights)
loose_parts number flights flying are is = parts flights are.ascend is
  where
    parts : (flights : List Flying) → AllPairs (λ a b. a.number < b.number) flights → flying_by number flights ≡ Some flying → IsPermutation (loose_in (without number flights) ++ flying.written) (loose_in flights)
    parts [] ascend is = absurd cc
    parts (first ∷ flights) ascend is = by (first.number == number) refl is (parts flights (pairs_tail (λ (a : Flying) (b : Flying). a.number < b.number) first flights ascend))
      where
        by : (b : Bool) → (first.number == number) ≡ b → cond b (Some first) (flying_by number flights) ≡ Some flying → (flying_by number flights ≡ Some flying → IsPermutation (loose_in (without number flights) ++ flying.written) (loose_in flights))
            → IsPermutation (loose_in (cond (not b) (first ∷ without number flights) (without number flights)) ++ flying.written) (first.written ++ loose_in flights)
        by true at is rest =
            let same : flying ≡ first = cc in
            let others = others_all (λ (flying : Flying). flying.number == number) flights (later_fail number first flights ascend at) in
            subst (λ list. IsPermutation (loose_in list ++ flying.written) (first.written ++ loose_in flights)) (sym others)
            (subst (λ (flying : Flying). IsPermutation (loose_in flights ++ flying.written) (first.written ++ loose_in flights)) (sym same) (IsPermutation-append_comm (loose_in flights) first.written))
        by false at is rest =
            subst (λ list. IsPermutation list (first.written ++ loose_in flights)) (sym (append_assoc first.written (loose_in (without number flights)) flying.written))
            (IsPermutation-append_right first.written (loose_in (without number flights) ++ flying.written) (loose_in flights) (rest is))

-- with more that are written for it
pub loose_pages : (number : ℕ) (flights : List Flying) (flying : Flying) (pages : List (Name × List ℕ)) → AreFlights flights → flying_by number flights ≡ Some flying
    → IsPermutation (loose_in flights ++ pages) (loose_in (with_pages_of number pages flights))
loose_pages number flights flying pages are is = more flights are.ascend is
  where
    more : (flights : List Flying) → AllPairs (λ a b. a.number < b.number) flights → flying_by number flights ≡ Some flying → IsPermutation (loose_in flights ++ pages) (loose_in (with_pages_of number pages flights))
    more [] ascend is = absurd cc
    more (first ∷ flights) ascend is = by (first.number == number) refl is (more flights (pairs_tail (λ (a : Flying) (b : Flying). a.number < b.number) first flights ascend))
      where
        by : (b : Bool) → (first.number == number) ≡ b → cond b (Some first) (flying_by number flights) ≡ Some flying → (flying_by number flights ≡ Some flying → IsPermutation (loose_in flights ++ pages) (loose_in (with_pages_of number pages flights)))
            → IsPermutation ((first.written ++ loose_in flights) ++ pages) ((if b then with_pages first pages else first).written ++ loose_in (with_pages_of number pages flights))
        by true at is rest =
            let others = others_stay (λ (flying : Flying). flying.number == number) (λ flying. with_pages flying pages) flights (later_fail number first flights ascend at) in
            subst (λ list. IsPermutation ((first.written ++ loose_in flights) ++ pages) ((first.written ++ pages) ++ loose_in list)) (sym others)
            (subst (λ list. IsPermutation list ((first.written ++ pages) ++ loose_in flights)) (sym (append_assoc first.written (loose_in flights) pages))
            (subst (λ list. IsPermutation (first.written ++ (loose_in flights ++ pages)) list) (sym (append_assoc first.written pages (loose_in flights)))
            (IsPermutation-append_right first.written (loose_in flights ++ pages) (pages ++ loose_in flights) (IsPermutation-append_comm (loose_in flights) pages))))
        by false at is rest =
            subst (λ list. IsPermutation list (first.written ++ loose_in (with_pages_of number pages flights))) (sym (append_assoc first.written (loose_in flights) pages))
            (IsPermutation-append_right first.written (loose_in flights ++ pages) (loose_in (with_pages_of number pages flights)) (rest is))

-- the pages of the job of a number
pub written_is : (number : ℕ) (flights : List Flying) (flying : Flying) → flying_by number flights ≡ Some flying → written_by number flights ≡ flying.written
written_is number flights flying is = ap (λ found. option_map_or (λ (flying : Flying). flying.written) found []) is

-- The job at a place

-- where its pages are more, they are more for its number
pages_at : (number : ℕ) (pages : List (Name × List ℕ)) (flights : List Flying) (place : ℕ) (flying : Flying) → AllPairs (λ a b. a.number < b.number) flights → place < length flights → get_or flights place flying ≡ flying → flying.number ≡ number
    → set flights place (with_pages flying pages) ≡ with_pages_of number pages flights
pages_at number pages [] place flying ascend within at has = absurd (omega arith)
pages_at number pages (first ∷ flights) zero flying ascend within at has =
    let passes : (first.number == number) ≡ true = eq-eqb first.number number (ap (λ (flying : Flying). flying.number) at ∙ has) in
    let others = others_stay (λ (flying : Flying). flying.number == number) (λ flying. with_pages flying pages) flights (later_fail number first flights ascend passes) in
    let same : (if first.number == number then with_pages first pages else first) ≡ with_pages flying pages = ap (λ b. if b then with_pages first pages else first) passes ∙ ap (λ flying. with_pages flying pages) at in
    λ i. sym same i ∷ sym others i
pages_at number pages (first ∷ flights) (suc place) flying ascend within at has =
    let before : first.number < (get_or flights place flying).number = ascend zero (suc place) flying (omega arith) (omega arith) in
    let fails : (first.number == number) ≡ false = ne_eqb first.number number (λ same. omega (arith, before, ap (λ (flying : Flying). flying.number) at, has, same)) in
    let rest = pages_at number pages flights place flying (pairs_tail (λ (a : Flying) (b : Flying). a.number < b.number) first flights ascend) (omega arith) at has in
    λ i. sym (ap (λ b. if b then with_pages first pages else first) fails) i ∷ rest i

-- where it goes, the others are left
without_at : (number : ℕ) (flights : List Flying) (place : ℕ) (flying : Flying) → AllPairs (λ a b. a.number < b.number) flights → place < length flights → get_or flights place flying ≡ flying → flying.number ≡ number → remove flights place ≡ without number flights
without_at number [] place flying ascend within at has = absurd (omega arith)
without_at number (first ∷ flights) zero flying ascend within at has =
    let passes : (first.number == number) ≡ true = eq-eqb first.number number (ap (λ (flying : Flying). flying.number) at ∙ has) in
    let others = others_all (λ (flying : Flying). flying.number == number) flights (later_fail number first flights ascend passes) in
    sym (ap (λ b. cond (not b) (first ∷ without number flights) (without number flights)) passes ∙ others)
without_at number (first ∷ flights) (suc place) flying ascend within at has =
    let before : first.number < (get_or flights place flying).number = ascend zero (suc place) flying (omega arith) (omega arith) in
    let fails : (first.number == number) ≡ false = ne_eqb first.number number (λ same. omega (arith, before, ap (λ (flying : Flying). flying.number) at, has, same)) in
    let rest = without_at number flights place flying (pairs_tail (λ (a : Flying) (b : Flying). a.number < b.number) first flights ascend) (omega arith) at has in
    ap (λ list. first ∷ list) rest ∙ sym (ap (λ b. cond (not b) (first ∷ without number flights) (without number flights)) fails)

-- As they are held

-- the first that passes is found
first_found : {X : Type 0} (p : X → Bool) (xs : List X) (place : ℕ) (d : X) → place < length xs → ((k : ℕ) → k < place → p (get_or xs k d) ≡ false) → p (get_or xs place d) ≡ true → find p xs ≡ Some (get_or xs place d)
first_found p [] place d within before at = absurd (omega arith)
first_found p (x ∷ xs) zero d within before at = ap (λ b. cond b (Some x) (find p xs)) at
first_found p (x ∷ xs) (suc place) d within before at =
    ap (λ b. cond b (Some x) (find p xs)) (before zero (omega arith)) ∙ first_found p xs place d (omega arith) (λ k lt. before (suc k) (omega arith)) at

none_found : {X : Type 0} (p : X → Bool) (xs : List X) → All (λ x. p x ≡ false) xs → find p xs ≡ None
none_found p [] fail = refl
none_found p (x ∷ xs) fail = ap (λ b. cond b (Some x) (find p xs)) (All-head (λ x. p x ≡ false) x xs fail) ∙ none_found p xs (All-tail (λ x. p x ≡ false) x xs fail)

find_mapped : {X Y : Type 0} (f : X → Y) (p : Y → Bool) (xs : List X) → find p (map f xs) ≡ option_map f (find (λ x. p (f x)) xs)
find_mapped f p [] = refl
find_mapped f p (x ∷ xs) = by (p (f x)) (find_mapped f p xs)
  where
    by : (b : Bool) → find p (map f xs) ≡ option_map f (find (λ x. p (f x)) xs) → cond b (Some (f x)) (find p (map f xs)) ≡ option_map f (cond b (Some x) (find (λ x. p (f x)) xs))
    by true rest = refl
    by false rest = rest

remove_mapped : {X Y : Type 0} (f : X → Y) (xs : List X) (place : ℕ) → map f (remove xs place) ≡ remove (map f xs) place
remove_mapped f xs place = map-append f (take place xs) (drop (suc place) xs) ∙ (λ i. sym (take-map f place xs) i ++ sym (drop-map f (suc place) xs) i)

either_result : {T E P Q R : Type 0} (r : Result T E) → (P → R) → (Q → R) → OnOk r P → OnErr r Q → R
either_result (Ok x) done kept p q = done p
either_result (Err e) done kept p q = kept q

module _ {D Page Port : Type 0} {kind : Ghosts D Page Port} where
  -- whether a job has a number
  abbrev pub has_number : ℕ → Flight D Page Port kind → Bool
  has_number number flight = flight.number == number

  pub held_within : (flights : List (Flight D Page Port kind)) (now : List Flying) (place : ℕ) → map flying_of flights ≡ now → place < length now → place < length flights
  held_within flights now place is within = omega (arith, within, ap length is, length-map flights (λ (flight : Flight D Page Port kind). flying_of flight))

  found_at : (number : ℕ) (flights : List (Flight D Page Port kind)) (place : ℕ) → place < length flights → HoldsAt (λ flight. has_number number flight ≡ true) flights place → AllWithin (λ flight. has_number number flight ≡ false) flights 0 place
      → HoldsAt (λ flying. flying_by number (map flying_of flights) ≡ Some flying) (map flying_of flights) place
  found_at number [] place within at before d = absurd (omega arith)
  found_at number (first ∷ flights) place within at before d =
      find_mapped (λ (flight : Flight D Page Port kind). flying_of flight) (λ flying. flying.number == number) (first ∷ flights)
      ∙ ap (option_map (λ (flight : Flight D Page Port kind). flying_of flight)) (first_found (has_number number) (first ∷ flights) place first within (λ k lt. before k first (omega arith) lt) (at first))
      ∙ ap (λ flying. Some flying) (sym (get_or-map (λ (flight : Flight D Page Port kind). flying_of flight) (first ∷ flights) place first d within))

  -- the place of the first that has the number
  pub place_is : (number : ℕ) (flights : List (Flight D Page Port kind)) (now : List Flying) (r : Option ℕ) → map flying_of flights ≡ now
      → MatchOption r (AllWithin (λ flight. has_number number flight ≡ false) flights 0 (length flights))
      (λ place. (place < length flights) × HoldsAt (λ flight. has_number number flight ≡ true) flights place × AllWithin (λ flight. has_number number flight ≡ false) flights 0 place)
      → (IsNone r ↔ (flying_by number now ≡ None)) × IfSome r (λ place. place < length now) × IfSome r (λ place. HoldsAt (λ flying. flying_by number now ≡ Some flying) now place)
  place_is number flights now None is first =
      let none : flying_by number (map flying_of flights) ≡ None =
      find_mapped (λ (flight : Flight D Page Port kind). flying_of flight) (λ flying. flying.number == number) flights
      ∙ ap (option_map (λ (flight : Flight D Page Port kind). flying_of flight)) (none_found (has_number number) flights (λ k d within. first k d (omega arith) within)) in
      (((λ gone. ap (flying_by number) (sym is) ∙ none), (λ gone. refl)), tt, tt)
  place_is number flights now (Some place) is first =
      let at = found_at number flights place first.0 first.1 first.2 in
      let there : HoldsAt (λ flying. flying_by number now ≡ Some flying) now place = subst (λ now. HoldsAt (λ flying. flying_by number now ≡ Some flying) now place) is at in
      let within : place < length now = omega (arith, first.0, ap length is, length-map flights (λ (flight : Flight D Page Port kind). flying_of flight)) in
      (((λ gone. absurd (let no : true ≡ false = gone in cc)), (λ gone. by now within gone there)), within, there)
    where
      by : (now : List Flying) → place < length now → flying_by number now ≡ None → HoldsAt (λ flying. flying_by number now ≡ Some flying) now place → IsNone (Some place)
      by [] within gone there = absurd (omega arith)
      by (flying ∷ now) within gone there = let is = there flying in absurd cc

  -- the one that is found
  pub found_is : (number : ℕ) (flights : List (Flight D Page Port kind)) (now : List Flying) (r : Option (Bor (Flight D Page Port kind))) → map flying_of flights ≡ now → option_map (λ flight. flight.now) r ≡ find (has_number number) flights
      → (IsNone r ↔ (flying_by number now ≡ None)) × IfSome r (λ flight. flying_by number now ≡ Some (flying_of flight.now))
  found_is number flights now r is found = by r (ap (flying_by number) (sym is) ∙ find_mapped (λ (flight : Flight D Page Port kind). flying_of flight) (λ flying. flying.number == number) flights ∙ sym (ap (option_map (λ (flight : Flight D Page Port kind). flying_of flight)) found))
    where
      by : (r : Option (Bor (Flight D Page Port kind))) → flying_by number now ≡ option_map (λ (flight : Flight D Page Port kind). flying_of flight) (option_map (λ flight. flight.now) r)
          → (IsNone r ↔ (flying_by number now ≡ None)) × IfSome r (λ flight. flying_by number now ≡ Some (flying_of flight.now))
      by None at = (((λ gone. at), (λ gone. refl)), tt)
      by (Some flight) at = (((λ gone. absurd (let no : true ≡ false = gone in cc)), (λ gone. absurd cc)), at)

  -- what a job is installed beside, by whether all that are in flight have its number
  pub company_held : (number : ℕ) (flights : List (Flight D Page Port kind)) (now : List Flying) (all : Bool) → map flying_of flights ≡ now → all ≡ list_all (has_number number) flights → company_of (without number now) ≡ cond all Last Beside
  company_held number flights now all is tested = ap (λ now. company_of (without number now)) (sym is) ∙ held flights ∙ sym (ap (λ b. cond b Last Beside) tested)
    where
      held : (flights : List (Flight D Page Port kind)) → company_of (without number (map flying_of flights)) ≡ cond (list_all (has_number number) flights) Last Beside
      held [] = refl
      held (first ∷ flights) = by (has_number number first) (held flights)
        where
          by : (b : Bool) → company_of (without number (map flying_of flights)) ≡ cond (list_all (has_number number) flights) Last Beside
              → company_of (cond (not b) (flying_of first ∷ without number (map flying_of flights)) (without number (map flying_of flights))) ≡ cond (b && list_all (has_number number) flights) Last Beside
          by true rest = rest
          by false rest = refl

  -- the job at the place is the one of the number
  pub job_at : (number : ℕ) (flights : List (Flight D Page Port kind)) (now : List Flying) (place : ℕ) (flight : Flight D Page Port kind) → map flying_of flights ≡ now → place < length now → HoldsAt (λ flying. flying_by number now ≡ Some flying) now place
      → flight ≡ get_or flights place flight → (get_or now place (flying_of flight) ≡ flying_of flight) × (flying_by number now ≡ Some (flying_of flight))
  job_at number flights now place flight is within there at =
      let same : get_or now place (flying_of flight) ≡ flying_of flight =
      ap (λ now. get_or now place (flying_of flight)) (sym is) ∙ get_or-map (λ (flight : Flight D Page Port kind). flying_of flight) flights place flight (flying_of flight) (held_within flights now place is within)
      ∙ ap (λ (flight : Flight D Page Port kind). flying_of flight) (sym at) in
      (same, there (flying_of flight) ∙ ap (λ flying. Some flying) same)

  -- a page is written for it
  pub written_at : (number : ℕ) (flights : List (Flight D Page Port kind)) (now : List Flying) (place : ℕ) (flight : Flight D Page Port kind) (written pages : List (Name × List ℕ)) → map flying_of flights ≡ now → AreFlights now → place < length now
      → HoldsAt (λ flying. flying_by number now ≡ Some flying) now place → flight ≡ get_or flights place flight → written ≡ flight.written ++ pages → map flying_of (set flights place (record flight { written = written })) ≡ with_pages_of number pages now
  written_at number flights now place flight written pages is are within there at more =
      let job = job_at number flights now place flight is within there at in
      let has = flying_there number now (flying_of flight) job.1 in
      map-set (λ (flight : Flight D Page Port kind). flying_of flight) flights place (record flight { written = written })
      ∙ (λ i. set (is i) place (flying_of (record flight { written = more i })))
      ∙ pages_at number pages now place (flying_of flight) are.ascend within job.0 has.1

  -- or none is
  pub kept_at : (flights : List (Flight D Page Port kind)) (now : List Flying) (place : ℕ) (flight : Flight D Page Port kind) (written : List (Name × List ℕ)) → map flying_of flights ≡ now → flight ≡ get_or flights place flight → written ≡ flight.written
      → map flying_of (set flights place (record flight { written = written })) ≡ now
  kept_at flights now place flight written is at same =
      ap (λ (flights : List (Flight D Page Port kind)). map flying_of flights) (ap (λ written. set flights place (record flight { written = written })) same ∙ ap (set flights place) at ∙ set-get_or flights place flight) ∙ is

  -- either way the claims stay those of the tasks
  pub claimed_at : {T E : Type 0} (r : Result T E) (number : ℕ) (flights : List (Flight D Page Port kind)) (now : List Flying) (place : ℕ) (flight : Flight D Page Port kind) (written pages : List (Name × List ℕ)) → map flying_of flights ≡ now → AreClaimed flights
      → place < length now → HoldsAt (λ flying. flying_by number now ≡ Some flying) now place → flight ≡ get_or flights place flight → OnOk r (written ≡ flight.written ++ pages) → OnErr r (written ≡ flight.written)
      → AreClaimed (set flights place (record flight { written = written }))
  claimed_at r number flights now place flight written pages is claimed within there at done kept = record {
    claims = All-set (λ (flight : Flight D Page Port kind). flight.claim ≡ claim_of_task (plain_task flight.task.value)) flights place (record flight { written = written })
        (subst (λ (flight : Flight D Page Port kind). flight.claim ≡ claim_of_task (plain_task flight.task.value)) (sym at) (All-get_or (λ (flight : Flight D Page Port kind). flight.claim ≡ claim_of_task (plain_task flight.task.value)) flights place flight (held_within flights now place is within) claimed.claims))
        claimed.claims;
    are =
        let are : AreFlights now = subst AreFlights is claimed.are in
        either_result r (λ more. subst AreFlights (sym (written_at number flights now place flight written pages is are within there at more)) (flights_pages number pages now are))
        (λ same. subst AreFlights (sym (kept_at flights now place flight written is at same)) are) done kept;
  }

  -- it goes
  pub removed_at : (number : ℕ) (flights new : List (Flight D Page Port kind)) (now : List Flying) (place : ℕ) (flight : Flight D Page Port kind) → map flying_of flights ≡ now → AreFlights now → place < length now → HoldsAt (λ flying. flying_by number now ≡ Some flying) now place
      → flight ≡ get_or flights place flight → new ≡ remove flights place → map flying_of new ≡ without number now
  removed_at number flights new now place flight is are within there at left =
      let job = job_at number flights now place flight is within there at in
      let has = flying_there number now (flying_of flight) job.1 in
      ap (λ (flights : List (Flight D Page Port kind)). map flying_of flights) left ∙ remove_mapped (λ (flight : Flight D Page Port kind). flying_of flight) flights place ∙ ap (λ now. remove now place) is
      ∙ without_at number now place (flying_of flight) are.ascend within job.0 has.1

  pub claimed_without : (number : ℕ) (flights new : List (Flight D Page Port kind)) (now : List Flying) (place : ℕ) → AreClaimed flights → map flying_of flights ≡ now → new ≡ remove flights place → map flying_of new ≡ without number now → AreClaimed new
  claimed_without number flights new now place claimed is left others = record {
    claims = subst (λ (flights : List (Flight D Page Port kind)). All (λ flight. flight.claim ≡ claim_of_task (plain_task flight.task.value)) flights) (sym left)
        (All-append (λ (flight : Flight D Page Port kind). flight.claim ≡ claim_of_task (plain_task flight.task.value)) (take place flights) (drop (suc place) flights)
        (All-take (λ (flight : Flight D Page Port kind). flight.claim ≡ claim_of_task (plain_task flight.task.value)) place flights claimed.claims)
        (All-drop (λ (flight : Flight D Page Port kind). flight.claim ≡ claim_of_task (plain_task flight.task.value)) (suc place) flights claimed.claims));
    are = subst AreFlights (sym others) (flights_without number now (subst AreFlights is claimed.are));
  }

  -- one more comes
  pub claimed_more : (flights new : List (Flight D Page Port kind)) (now : List Flying) (flight : Flight D Page Port kind) → map flying_of flights ≡ now → AreClaimed flights → new ≡ flights ++ flight ∷ [] → flight.claim ≡ claim_of_task (plain_task flight.task.value)
      → All (λ flying. flying.number < flight.number) now → All (λ flying. meets (claim_of_task flying.task) flight.claim ≡ false) now → AreClaimed new
  claimed_more flights new now flight is claimed more own later apart = record {
    claims = subst (λ (flights : List (Flight D Page Port kind)). All (λ flight. flight.claim ≡ claim_of_task (plain_task flight.task.value)) flights) (sym more)
        (All-push (λ (flight : Flight D Page Port kind). flight.claim ≡ claim_of_task (plain_task flight.task.value)) flights flight claimed.claims own);
    are =
        let moved : map flying_of new ≡ now ++ flying_of flight ∷ [] =
        ap (λ (flights : List (Flight D Page Port kind)). map flying_of flights) more ∙ map-append (λ (flight : Flight D Page Port kind). flying_of flight) flights (flight ∷ []) ∙ ap (λ now. now ++ flying_of flight ∷ []) is in
        subst AreFlights (sym moved)
        (flights_more now (flying_of flight) (subst AreFlights is claimed.are) later (subst (λ claim. All (λ flying. meets (claim_of_task flying.task) claim ≡ false) now) own apart));
  }

  -- the names of their pages, one job after another
  pub names_more : (flights : List (Flight D Page Port kind)) (place : ℕ) (flight : Flight D Page Port kind) (old names own new : List Name) → place < length flights → flight ≡ get_or flights place flight
      → names ≡ old ++ names_in (loose_in (map flying_of (take place flights))) → own ≡ names_in flight.written → new ≡ names ++ own → new ≡ old ++ names_in (loose_in (map flying_of (take (place + 1) flights)))
  names_more flights place flight old names own new within at before own_is new_is =
      let done = map (λ (flight : Flight D Page Port kind). flying_of flight) (take place flights) in
      let more : map flying_of (take (place + 1) flights) ≡ done ++ flying_of flight ∷ [] =
      map_more (λ (flight : Flight D Page Port kind). flying_of flight) flights place flight within ∙ ap (λ (flight : Flight D Page Port kind). done ++ flying_of flight ∷ []) (sym at) in
      let pages : loose_in (done ++ flying_of flight ∷ []) ≡ loose_in done ++ flight.written =
      flat_map-append (λ (flying : Flying). flying.written) done (flying_of flight ∷ []) ∙ ap (λ list. loose_in done ++ list) (append-nil flight.written) in
      let named : names_in (loose_in (map flying_of (take (place + 1) flights))) ≡ names_in (loose_in done) ++ names_in flight.written =
      ap (λ list. names_in (loose_in list)) more ∙ ap names_in pages ∙ map-append (λ (named : Name × List ℕ). named.0) (loose_in done) flight.written in
      new_is ∙ (λ i. before i ++ own_is i) ∙ append_assoc old (names_in (loose_in done)) (names_in flight.written) ∙ ap (λ list. old ++ list) (sym named)

  pub names_all : (flights items : List (Flight D Page Port kind)) (now : List Flying) (place : ℕ) (old names : List Name) → length items ≤ place → items ≡ flights → map flying_of flights ≡ now
      → names ≡ old ++ names_in (loose_in (map flying_of (take place items))) → names ≡ old ++ names_in (loose_in now)
  names_all flights items now place old names past same is all =
      all ∙ ap (λ (flights : List (Flight D Page Port kind)). old ++ names_in (loose_in (map flying_of flights))) (take_all place items past ∙ same) ∙ ap (λ now. old ++ names_in (loose_in now)) is
