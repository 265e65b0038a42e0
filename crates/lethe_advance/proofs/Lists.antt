-- Filtered lists, in whatever order.
use Rattle.std.proofs.Common.{◌≡◌, ◌<◌, ℕ, zero, suc, Bool, true, false, cond, List, [], ◌∷◌, map, length, get_or, refl, sym, ◌∙◌, ap, subst, arith}
use Rattle.std.specs.Prelude.{filter, All}
use Rattle.std.specs.List.Sorted.{IsPermutation}
use Rattle.std.specs.List.{swap}
use Rattle.std.proofs.Math.ListN.{set}
use Rattle.std.proofs.lemmas.List.Edits.{swap_is}
use Rattle.std.proofs.lemmas.List.Elements.{All-head, All-tail}
use Rattle.std.proofs.lemmas.List.Sorted.{IsPermutation-refl, IsPermutation-cons, IsPermutation-trans, IsPermutation-append_left, IsPermutation-append_comm, IsPermutation-keeps}

module _ {X : Type 0} (p : X → Bool) where
  same_first : (x : X) (xs ys : List X) → IsPermutation (filter p xs) (filter p ys) → IsPermutation (filter p (x ∷ xs)) (filter p (x ∷ ys))
  same_first x xs ys same = elim (p x) as (λ b. IsPermutation (cond b (x ∷ filter p xs) (filter p xs)) (cond b (x ∷ filter p ys) (filter p ys))) [
    | true ↦ IsPermutation-cons x (filter p xs) (filter p ys) same
    | false ↦ same
  ]

  turned : (x y : X) (zs : List X) → IsPermutation (filter p (x ∷ y ∷ zs)) (filter p (y ∷ x ∷ zs))
  turned x y zs = by (p x) (p y)
    where
      rest : List X
      rest = filter p zs

      by : (a b : Bool) → IsPermutation (cond a (x ∷ cond b (y ∷ filter p zs) (filter p zs)) (cond b (y ∷ filter p zs) (filter p zs))) (cond b (y ∷ cond a (x ∷ filter p zs) (filter p zs)) (cond a (x ∷ filter p zs) (filter p zs)))
      by true true = IsPermutation-append_left (filter p zs) (x ∷ y ∷ []) (y ∷ x ∷ []) (IsPermutation-append_comm (x ∷ []) (y ∷ []))
      by true false = IsPermutation-refl (x ∷ filter p zs)
      by false true = IsPermutation-refl (y ∷ filter p zs)
      by false false = IsPermutation-refl (filter p zs)

  exchanged : (x d : X) (xs : List X) (j : ℕ) → j < length xs → IsPermutation (filter p (x ∷ xs)) (filter p (get_or xs j d ∷ set xs j x))
  exchanged x d [] j lt = absurd (omega arith)
  exchanged x d (y ∷ xs) zero lt = turned x y xs
  exchanged x d (y ∷ xs) (suc j) lt =
      IsPermutation-trans _ _ _ (turned x y xs) (IsPermutation-trans _ _ _ (same_first y (x ∷ xs) (get_or xs j d ∷ set xs j x) (exchanged x d xs j (omega arith))) (turned y (get_or xs j d) (set xs j x)))

  swapped : (d : X) (xs : List X) (i j : ℕ) → i < length xs → j < length xs → IsPermutation (filter p xs) (filter p (set (set xs i (get_or xs j d)) j (get_or xs i d)))
  swapped d [] i j i_in j_in = absurd (omega arith)
  swapped d (x ∷ xs) zero zero i_in j_in = IsPermutation-refl (filter p (x ∷ xs))
  swapped d (x ∷ xs) zero (suc j) i_in j_in = exchanged x d xs j (omega arith)
  swapped d (x ∷ xs) (suc i) zero i_in j_in = exchanged x d xs i (omega arith)
  swapped d (x ∷ xs) (suc i) (suc j) i_in j_in = same_first x xs _ (swapped d xs i j (omega arith) (omega arith))

  swap_filtered : (xs : List X) (i j : ℕ) → i < length xs → j < length xs → IsPermutation (filter p xs) (filter p (swap xs i j))
  swap_filtered [] i j i_in j_in = absurd (omega arith)
  swap_filtered (x ∷ xs) i j i_in j_in = subst (λ l. IsPermutation (filter p (x ∷ xs)) (filter p l)) (swap_is (x ∷ xs) i j x i_in j_in) (swapped x (x ∷ xs) i j i_in j_in)

  pub filter-permuted : (xs ys : List X) → IsPermutation xs ys → IsPermutation (filter p xs) (filter p ys)
  filter-permuted xs = IsPermutation-keeps xs (λ l. IsPermutation (filter p xs) (filter p l)) (IsPermutation-refl (filter p xs))
      (λ l i j i_in j_in so_far. IsPermutation-trans (filter p xs) (filter p l) (filter p (swap l i j)) so_far (swap_filtered l i j i_in j_in))

  pub filter_all : (xs : List X) → All (λ x. p x ≡ true) xs → filter p xs ≡ xs
  filter_all [] all = refl
  filter_all (x ∷ xs) all = (λ i. cond (All-head (λ y. p y ≡ true) x xs all i) (x ∷ filter p xs) (filter p xs)) ∙ ap (λ l. x ∷ l) (filter_all xs (All-tail (λ y. p y ≡ true) x xs all))

-- one filter behind another

module _ {X : Type 0} (p q : X → Bool) where
  cond_swap : (x : X) (xs : List X) (a b : Bool) → p x ≡ a → q x ≡ b → filter p (cond b (x ∷ filter q xs) (filter q xs)) ≡ filter q (cond a (x ∷ filter p xs) (filter p xs)) → filter p (filter q (x ∷ xs)) ≡ filter q (filter p (x ∷ xs))
  cond_swap x xs a b is_a is_b same = ap (λ t. filter p (cond t (x ∷ filter q xs) (filter q xs))) is_b ∙ same ∙ sym (ap (λ t. filter q (cond t (x ∷ filter p xs) (filter p xs))) is_a)

  first_first : (x : X) (xs : List X) → filter p (filter q xs) ≡ filter q (filter p xs) → (a b : Bool) → p x ≡ a → q x ≡ b → filter p (filter q (x ∷ xs)) ≡ filter q (filter p (x ∷ xs))
  first_first x xs rest true true is_a is_b = cond_swap x xs true true is_a is_b
      (ap (λ t. cond t (x ∷ filter p (filter q xs)) (filter p (filter q xs))) is_a ∙ ap (λ l. x ∷ l) rest ∙ sym (ap (λ t. cond t (x ∷ filter q (filter p xs)) (filter q (filter p xs))) is_b))
  first_first x xs rest true false is_a is_b = cond_swap x xs true false is_a is_b (rest ∙ sym (ap (λ t. cond t (x ∷ filter q (filter p xs)) (filter q (filter p xs))) is_b))
  first_first x xs rest false true is_a is_b = cond_swap x xs false true is_a is_b (ap (λ t. cond t (x ∷ filter p (filter q xs)) (filter p (filter q xs))) is_a ∙ rest)
  first_first x xs rest false false is_a is_b = cond_swap x xs false false is_a is_b rest

  pub filter-filter : (xs : List X) → filter p (filter q xs) ≡ filter q (filter p xs)
  filter-filter [] = refl
  filter-filter (x ∷ xs) = first_first x xs (filter-filter xs) (p x) (q x) refl refl

module _ {X Y : Type 0} (f : X → Y) (p : Y → Bool) where
  mapped : (x : X) (xs : List X) → map f (filter (λ y. p (f y)) xs) ≡ filter p (map f xs) → (b : Bool) → map f (cond b (x ∷ filter (λ y. p (f y)) xs) (filter (λ y. p (f y)) xs)) ≡ cond b (f x ∷ filter p (map f xs)) (filter p (map f xs))
  mapped x xs rest true = ap (λ l. f x ∷ l) rest
  mapped x xs rest false = rest

  pub map-filter : (xs : List X) → map f (filter (λ x. p (f x)) xs) ≡ filter p (map f xs)
  map-filter [] = refl
  map-filter (x ∷ xs) = mapped x xs (map-filter xs) (p (f x))
