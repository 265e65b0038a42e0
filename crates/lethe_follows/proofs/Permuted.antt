-- Items whose numbers differ, in whatever order they stand.
use Rattle.std.proofs.Common.{◌≡◌, ◌≢◌, inl, inr, ℕ, ◌≤◌, Bool, cond, eqb, List, [], ◌∷◌, Contains, IsPermutation, refl, sym, ap, ◌∙◌, arith}
use Rattle.std.specs.Prelude.{filter, flat_map, sum_by}
use Rattle.std.proofs.lemmas.Bool.{cases_eq, cond_both, eq-eqb, ne_eqb}
use Rattle.std.proofs.lemmas.List.Sorted.{sum_by-IsPermutation}
use Rattle.std.proofs.lemmas.List.Sums.{sum_by-append, sum_by-cons}
use Rattle.lethe_cover.proofs.Common.{⊎_elim, none_in, first_is, first_or_rest}
use Rattle.lethe_cover.proofs.Lists.{Pairs, in_rest, flat_from, flat_in, pairs_append, pairs_parts}
use Rattle.lethe_stored.proofs.Leveled.{from_filter}

-- where each number stands at most once, no two items have one number, and the other way round
module _ {X : Type 0} (number : X → ℕ) where
  abbrev Apart : X → X → Type 0
  Apart a b = number a ≢ number b

  -- 1 where the item has the number
  abbrev has : ℕ → X → ℕ
  has n x = cond (eqb (number x) n) 1 0

  has_own : (n : ℕ) (x : X) → number x ≡ n → has n x ≡ 1
  has_own n x same = ap (λ (b : Bool). cond {A = ℕ} b 1 0) (eq-eqb (number x) n same)

  has_none : (n : ℕ) (x : X) → number x ≢ n → has n x ≡ 0
  has_none n x other = ap (λ (b : Bool). cond {A = ℕ} b 1 0) (ne_eqb (number x) n other)

  some_counted : (n : ℕ) (xs : List X) (x : X) → Contains xs x → number x ≡ n → 1 ≤ sum_by (has n) xs
  some_counted n [] x there same = absurd (none_in x there)
  some_counted n (first ∷ xs) x there same = ⊎_elim
      (λ here. let one = has_own n first (ap number here ∙ same) in omega (arith, one, sum_by-cons (has n) first xs))
      (λ rest. let more = some_counted n xs x rest same in omega (arith, more, sum_by-cons (has n) first xs))
      (first_or_rest first xs x there)

  none_counted : (n : ℕ) (xs : List X) → ((x : X) → Contains xs x → number x ≢ n) → sum_by (has n) xs ≡ 0
  none_counted n [] others = refl
  none_counted n (first ∷ xs) others =
      let none = has_none n first (others first (first_is first xs first refl)) in
      let more = none_counted n xs (λ x there. others x (in_rest first xs x there)) in
      omega (arith, none, more, sum_by-cons (has n) first xs)

  once_counted : (xs : List X) → Pairs Apart xs → (n : ℕ) → sum_by (has n) xs ≤ 1
  once_counted [] pairs n = omega arith
  once_counted (x ∷ xs) pairs n = elim (cases_eq (number x) n) [
    | inl same ↦
        let one = has_own n x same in
        let none = none_counted n xs (λ y there is. pairs.0 y there (same ∙ sym is)) in
        omega (arith, one, none, sum_by-cons (has n) x xs)
    | inr other ↦
        let none = has_none n x other in
        let more = once_counted xs pairs.1 n in
        omega (arith, none, more, sum_by-cons (has n) x xs)
  ]

  counted_once : (xs : List X) → ((n : ℕ) → sum_by (has n) xs ≤ 1) → Pairs Apart xs
  counted_once [] few = tt
  counted_once (x ∷ xs) few = (
    (λ y there same.
        let one = has_own (number x) x refl in
        let more = some_counted (number x) xs y there (sym same) in
        let most = few (number x) in
        omega (arith, one, more, most, sum_by-cons (has (number x)) x xs)),
    counted_once xs (λ n. let most = few n in omega (arith, most, sum_by-cons (has n) x xs)),
  )

  pub once_permuted : (xs ys : List X) → IsPermutation xs ys → Pairs Apart xs → Pairs Apart ys
  once_permuted xs ys permuted pairs = counted_once ys (λ n. let few = once_counted xs pairs n in omega (arith, few, sum_by-IsPermutation (has n) xs ys permuted))

  -- the same of the items of files
  module _ {F : Type 0} (items : F → List X) where
    by_file : (n : ℕ) (files : List F) → sum_by (has n) (flat_map items files) ≡ sum_by (λ file. sum_by (has n) (items file)) files
    by_file n [] = refl
    by_file n (file ∷ files) = omega (
      arith,
      sum_by-append (has n) (items file) (flat_map items files),
      by_file n files,
      sum_by-cons (λ file. sum_by (has n) (items file)) file files,
    )

    pub flat_permuted : (files others : List F) → IsPermutation files others → Pairs Apart (flat_map items files) → Pairs Apart (flat_map items others)
    flat_permuted files others permuted pairs = counted_once (flat_map items others) (λ n.
        let few = once_counted (flat_map items files) pairs n in
        omega (arith, few, by_file n files, by_file n others, sum_by-IsPermutation (λ file. sum_by (has n) (items file)) files others permuted))

-- what holds of each two items of files holds of those of some of the files
module _ {F X : Type 0} (R : X → X → Type 0) (items : F → List X) (p : F → Bool) where
  in_all : (files : List F) (x : X) → Contains (flat_map items (filter p files)) x → Contains (flat_map items files) x
  in_all files x there =
      let found = flat_from items (filter p files) x there in
      flat_in items files found.0 x (from_filter p files found.0 found.1).0 found.2

  pub pairs_kept : (files : List F) → Pairs R (flat_map items files) → Pairs R (flat_map items (filter p files))
  pairs_kept [] pairs = tt
  pairs_kept (file ∷ files) pairs =
      let parts = pairs_parts R (items file) (flat_map items files) pairs in
      let rest = pairs_kept files parts.1 in
      cond_both (p file) (file ∷ filter p files) (filter p files) (λ kept. Pairs R (flat_map items kept))
      (λ _. pairs_append R (items file) (flat_map items (filter p files)) parts.0 rest (λ a b left right. parts.2 a b left (in_all files b right)))
      (λ _. rest)
