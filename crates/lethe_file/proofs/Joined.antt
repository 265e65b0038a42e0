-- Lists end to end, and what a filter leaves of them.
use Rattle.std.proofs.Common.{◌≡◌, ℕ, zero, suc, ◌<◌, Bool, true, false, cond, List, [], ◌∷◌, ◌++◌, length, get_or, All, Contains, IsTrue, refl, sym, ap, subst, ◌∙◌, inl, inr, arith}
use Rattle.std.specs.Prelude.{Any, filter, not}
use Rattle.std.proofs.lemmas.Bool.{true≢false}
use Rattle.std.proofs.lemmas.List.{get_or_default}
use Rattle.std.proofs.lemmas.List.Elements.{All-append, All-contains, All-contains_itself, All-filter, All-head, All-nil, All-tail, Contains-append_cases, Contains-append_left, Contains-append_right, Contains-get_or, filter_passes}
use Rattle.std.proofs.lemmas.List.Sorted.{Contains-permutation, IsPermutation-filter_both}
use Rattle.lethe_header.specs.Woven.{joined}
use Rattle.lethe_header.proofs.Orders.{Across}

pub all_joined : {X : Type 0} (P : X → Type 0) (parts : List (List X)) → All (All P) parts → All P (joined parts)
all_joined P [] each = All-nil P
all_joined P (part ∷ parts) each = All-append P part (joined parts) (All-head (All P) part parts each) (all_joined P parts (All-tail (All P) part parts each))

pub across_joined : {X : Type 0} (R : X → X → Type 0) (xs : List X) (parts : List (List X)) → All (Across R xs) parts → Across R xs (joined parts)
across_joined R xs parts each k d lt = all_joined (R (get_or xs k d)) parts (λ j part inside. each j part inside k d lt)

pub filter_none : {X : Type 0} (p : X → Bool) (xs : List X) → All (λ x. p x ≡ false) xs → filter p xs ≡ []
filter_none p [] none = refl
filter_none p (x ∷ xs) none = ap (λ b. cond b (x ∷ filter p xs) (filter p xs)) (All-head (λ x. p x ≡ false) x xs none) ∙ filter_none p xs (All-tail (λ x. p x ≡ false) x xs none)

pub in_joined : {X : Type 0} (parts : List (List X)) (x : X) → Any (λ part. Contains part x) parts → Contains (joined parts) x
in_joined parts x (k, part, lt, is, has) = at parts k part lt is has
  where
    at : (parts : List (List _)) (k : ℕ) (part : List _) → k < length parts → get_or parts k part ≡ part → Contains part x → Contains (joined parts) x
    at [] k part lt is has = absurd (omega (arith, lt))
    at (q ∷ qs) zero part lt is has = Contains-append_left q (joined qs) x (subst (λ (l : List _). Contains l x) (sym is) has)
    at (q ∷ qs) (suc k) part lt is has = Contains-append_right q (joined qs) x (at qs k part (omega arith) is has)

pub from_joined : {X : Type 0} (parts : List (List X)) (x : X) → Contains (joined parts) x → Any (λ part. Contains part x) parts
from_joined {X} parts x has =
    let P : X → Type 0 = λ y. Any (λ part. Contains part y) parts in
    let each : All (All P) parts = λ k d lt j e inside.
    (k, get_or parts k d, lt, get_or_default parts k (get_or parts k d) d lt, Contains-get_or (get_or parts k d) j e inside) in
    All-contains P (joined parts) x (all_joined P parts each) has

pub from_filter : {X : Type 0} (p : X → Bool) (xs : List X) (x : X) → Contains (filter p xs) x → Contains xs x × IsTrue (p x)
from_filter p xs x has = (
  All-contains (Contains xs) (filter p xs) x (All-filter p (Contains xs) xs (All-contains_itself xs)) has,
  All-contains (λ y. p y ≡ true) (filter p xs) x (filter_passes p xs) has,
)

pub in_filter : {X : Type 0} (p : X → Bool) (xs : List X) (x : X) → Contains xs x → IsTrue (p x) → Contains (filter p xs) x
in_filter p xs x has passes =
    let both = Contains-permutation xs (filter p xs ++ filter (λ y. not (p y)) xs) x (IsPermutation-filter_both p (λ y. not (p y)) (λ y. refl) xs) has in
    elim (Contains-append_cases (filter p xs) (filter (λ y. not (p y)) xs) x both) [
      | inl kept ↦ kept
      | inr other ↦ absurd (let no : not (p x) ≡ true = All-contains (λ y. not (p y) ≡ true) (filter (λ y. not (p y)) xs) x (filter_passes (λ y. not (p y)) xs) other in true≢false (sym no ∙ ap not passes))
    ]
