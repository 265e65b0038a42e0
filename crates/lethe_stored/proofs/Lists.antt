-- Elements of lists that are made of others.
use Rattle.std.proofs.Common.{inl, inr, ◌≡◌, ◌≢◌, ◌<◌, ℕ, suc, get_or, map, List, [], ◌∷◌, ◌++◌, zero, refl, sym, subst, arith}
use Rattle.std.specs.Prelude.{All, AllPairs, Contains, flat_map, zip}
use Rattle.std.proofs.lemmas.List.Elements.{All-contains, Contains-get_or, Contains-append_left, Contains-append_right, Contains-append_cases}
use Rattle.lethe_base.proofs.LayoutLaws.{none_in}
use Rattle.lethe_base.proofs.Newest.{first_or_rest, first_is}

pub later_in : {X : Type 0} (first : X) (xs : List X) (x : X) → Contains xs x → Contains (first ∷ xs) x
later_in first xs x there = let lt = there.1 in (suc there.0, omega arith, there.2)

pub in_map : {X Y : Type 0} (f : X → Y) (xs : List X) (x : X) → Contains xs x → Contains (map f xs) (f x)
in_map f [] x there = absurd (none_in x there)
in_map f (first ∷ xs) x there = elim (first_or_rest first xs x there) [
  | inl same ↦ first_is (f first) (map f xs) (f x) (λ i. f (same i))
  | inr rest ↦ later_in (f first) (map f xs) (f x) (in_map f xs x rest)
]

pub from_map : {X Y : Type 0} (f : X → Y) (xs : List X) (y : Y) → Contains (map f xs) y → (x : X) × Contains xs x × (f x ≡ y)
from_map f [] y there = absurd (none_in y there)
from_map f (first ∷ xs) y there = elim (first_or_rest (f first) (map f xs) y there) [
  | inl same ↦ (first, first_is first xs first refl, same)
  | inr rest ↦ let found = from_map f xs y rest in (found.0, later_in first xs found.0 found.1, found.2)
]

pub in_flat : {X Y : Type 0} (f : X → List Y) (xs : List X) (x : X) (y : Y) → Contains xs x → Contains (f x) y → Contains (flat_map f xs) y
in_flat f [] x y there inside = absurd (none_in x there)
in_flat f (first ∷ xs) x y there inside = elim (first_or_rest first xs x there) [
  | inl same ↦ Contains-append_left (f first) (flat_map f xs) y (subst (λ z. Contains (f z) y) (sym same) inside)
  | inr rest ↦ Contains-append_right (f first) (flat_map f xs) y (in_flat f xs x y rest inside)
]

pub from_flat : {X Y : Type 0} (f : X → List Y) (xs : List X) (y : Y) → Contains (flat_map f xs) y → (x : X) × Contains xs x × Contains (f x) y
from_flat f [] y there = absurd (none_in y there)
from_flat f (first ∷ xs) y there = elim (Contains-append_cases (f first) (flat_map f xs) y there) [
  | inl here ↦ (first, first_is first xs first refl, here)
  | inr rest ↦ let found = from_flat f xs y rest in (found.0, later_in first xs found.0 found.1, found.2)
]

pub zip_left : {X Y : Type 0} (xs : List X) (ys : List Y) (pair : X × Y) → Contains (zip xs ys) pair → Contains xs pair.0
zip_left [] ys pair there = absurd (none_in pair there)
zip_left (x ∷ xs) [] pair there = absurd (none_in pair there)
zip_left (x ∷ xs) (y ∷ ys) pair there = elim (first_or_rest (x, y) (zip xs ys) pair there) [
  | inl same ↦ first_is x xs pair.0 (λ i. (same i).0)
  | inr rest ↦ later_in x xs pair.0 (zip_left xs ys pair rest)
]

-- All of a list

pub all_from : {X : Type 0} (P : X → Type 0) (xs : List X) → ((x : X) → Contains xs x → P x) → All P xs
all_from P xs each k d lt = each (get_or xs k d) (Contains-get_or xs k d lt)

pub all_left : {X : Type 0} (P : X → Type 0) (xs ys : List X) → All P (xs ++ ys) → All P xs
all_left P xs ys all = all_from P xs (λ x there. All-contains P (xs ++ ys) x all (Contains-append_left xs ys x there))

pub all_right : {X : Type 0} (P : X → Type 0) (xs ys : List X) → All P (xs ++ ys) → All P ys
all_right P xs ys all = all_from P ys (λ y there. All-contains P (xs ++ ys) y all (Contains-append_right xs ys y there))

-- Pairs of a list

pub no_pairs : {X : Type 0} (R : X → X → Type 0) → AllPairs R []
no_pairs R i j d lt within = absurd (omega arith)

pub pairs_of_one : (numbers : List ℕ) (k : ℕ) → numbers ≡ k ∷ [] → AllPairs (λ a b. a ≢ b) numbers
pairs_of_one numbers k is = subst (AllPairs (λ a b. a ≢ b)) (sym is) (λ i j d lt within. absurd (omega arith))

pub pairs_of_two : (a b : ℕ) → a ≢ b → AllPairs (λ a b. a ≢ b) (a ∷ b ∷ [])
pairs_of_two a b apart i j d lt within = by i j lt within
  where
    by : (i j : ℕ) → i < j → j < 2 → get_or (a ∷ b ∷ []) i d ≢ get_or (a ∷ b ∷ []) j d
    by zero (suc zero) lt within = apart
    by zero zero lt within = absurd (omega arith)
    by zero (suc (suc j)) lt within = absurd (omega arith)
    by (suc i) zero lt within = absurd (omega arith)
    by (suc i) (suc zero) lt within = absurd (omega arith)
    by (suc i) (suc (suc j)) lt within = absurd (omega arith)
