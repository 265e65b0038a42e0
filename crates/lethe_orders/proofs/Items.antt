-- Items of lists.
use Rattle.std.proofs.Common.{◌≡◌, ℕ, zero, suc, ◌<◌, ◌⊎◌, ◌↔◌, Bool, true, false, not, List, [], ◌∷◌, ◌++◌, length, get_or, Contains, refl, sym, ap, ◌∙◌, inl, inr, arith}
use Rattle.std.specs.List.{filter, list_any}
use Rattle.std.proofs.lemmas.Bool.{true≢false}
use Rattle.std.proofs.lemmas.List.Elements.{All-contains, All-contains_itself, All-filter, Contains-append_cases, Contains-append_right, filter_passes}
use Rattle.std.proofs.lemmas.List.Folds.{Any-from_list_any, list_any-from_Any}
use Rattle.std.proofs.lemmas.List.Sorted.{Contains-permutation, IsPermutation-filter_both, IsPermutation-middle, IsPermutation-sym}

-- a list with one item more

among_cases : {X : Type 0} (x y : X) (ys : List X) (k : ℕ) → k < length (y ∷ ys) → get_or (y ∷ ys) k x ≡ x → (y ≡ x) ⊎ Contains ys x
among_cases x y ys zero below is = inl is
among_cases x y ys (suc k) below is = inr (k, omega arith, is)

pub Contains-cases : {X : Type 0} (x y : X) (ys : List X) → Contains (y ∷ ys) x → (y ≡ x) ⊎ Contains ys x
Contains-cases x y ys h = among_cases x y ys h.0 h.1 h.2

pub Contains-first : {X : Type 0} (x y : X) (ys : List X) → y ≡ x → Contains (y ∷ ys) x
Contains-first x y ys is = (0, omega arith, is)

pub middle_cases : {X : Type 0} (x y : X) (xs zs : List X) → Contains (xs ++ y ∷ zs) x → (y ≡ x) ⊎ Contains (xs ++ zs) x
middle_cases x y xs zs h = Contains-cases x y (xs ++ zs) (Contains-permutation (xs ++ y ∷ zs) (y ∷ (xs ++ zs)) x (IsPermutation-middle xs y zs) h)

pub Contains-middle : {X : Type 0} (x y : X) (xs zs : List X) → y ≡ x → Contains (xs ++ y ∷ zs) x
Contains-middle x y xs zs is =
    Contains-permutation (y ∷ (xs ++ zs)) (xs ++ y ∷ zs) x (IsPermutation-sym (xs ++ y ∷ zs) (y ∷ (xs ++ zs)) (IsPermutation-middle xs y zs)) (Contains-first x y (xs ++ zs) is)

pub Contains-around : {X : Type 0} (x y : X) (xs zs : List X) → Contains (xs ++ zs) x → Contains (xs ++ y ∷ zs) x
Contains-around x y xs zs h =
    Contains-permutation (y ∷ (xs ++ zs)) (xs ++ y ∷ zs) x (IsPermutation-sym (xs ++ y ∷ zs) (y ∷ (xs ++ zs)) (IsPermutation-middle xs y zs)) (Contains-append_right (y ∷ []) (xs ++ zs) x h)

-- where one list's items are in another, so are they with one item more
pub middle_follows : {X : Type 0} (y : X) (xs zs us vs : List X) → ((x : X) → Contains (xs ++ zs) x → Contains (us ++ vs) x) → (x : X) → Contains (xs ++ y ∷ zs) x → Contains (us ++ y ∷ vs) x
middle_follows y xs zs us vs within x h =
    elim (middle_cases x y xs zs h) [ inl is ↦ Contains-middle x y us vs is | inr there ↦ Contains-around x y us vs (within x there) ]

-- the items that pass a test

pub filter_contains : {X : Type 0} (p : X → Bool) (xs : List X) (x : X) → Contains xs x → p x ≡ true → Contains (filter p xs) x
filter_contains p xs x h passes =
    elim (Contains-append_cases (filter p xs) (filter (λ y. not (p y)) xs) x
    (Contains-permutation xs (filter p xs ++ filter (λ y. not (p y)) xs) x (IsPermutation-filter_both p (λ y. not (p y)) (λ y. refl) xs) h)) [
      | inl kept ↦ kept
      | inr left ↦ absurd (true≢false (sym (All-contains (λ y. not (p y) ≡ true) (filter (λ y. not (p y)) xs) x (filter_passes (λ y. not (p y)) xs) left) ∙ ap not passes))
    ]

pub filter_follows : {X : Type 0} (p : X → Bool) (xs ys : List X) → ((x : X) → Contains xs x → Contains ys x) → (x : X) → Contains (filter p xs) x → Contains (filter p ys) x
filter_follows p xs ys within x h =
    filter_contains p ys x (within x (All-contains (Contains xs) (filter p xs) x (All-filter p (Contains xs) xs (All-contains_itself xs)) h))
    (All-contains (λ y. p y ≡ true) (filter p xs) x (filter_passes p xs) h)

-- a test of lists of the same items

any_follows : {X : Type 0} (p : X → Bool) (xs ys : List X) → ((x : X) → Contains xs x → Contains ys x) → list_any p xs ≡ true → list_any p ys ≡ true
any_follows p xs ys within any =
    let found = Any-from_list_any p xs any in
    let there = within found.1 (found.0, found.2, found.3) in
    list_any-from_Any p ys (there.0, found.1, there.1, there.2, found.4)

pub same_any : {X : Type 0} (p : X → Bool) (xs ys : List X) → ((x : X) → Contains xs x ↔ Contains ys x) → list_any p xs ≡ list_any p ys
same_any {X} p xs ys same = by (list_any p xs) (list_any p ys) refl refl
  where
    by : (b c : Bool) → list_any p xs ≡ b → list_any p ys ≡ c → list_any p xs ≡ list_any p ys
    by true c e f = e ∙ sym (any_follows p xs ys (λ x. (same x).0) e)
    by false true e f = absurd (true≢false (sym (any_follows p ys xs (λ x. (same x).1) f) ∙ e))
    by false false e f = e ∙ sym f
