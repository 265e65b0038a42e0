-- Lists that are no longer than others, and elements of which fewer pass a test.
use Rattle.std.proofs.Common.{◌≡◌, ◌≢◌, ℕ, ◌+◌, ◌<◌, ◌≤◌, Bool, cond, ltb, List, [], ◌∷◌, ◌++◌, length, length-append, refl, ap, subst, arith}
use Rattle.std.specs.Prelude.{Contains, count_by, filter, sum_by}
use Rattle.std.proofs.lemmas.Bool.Decides.{nat_tests}
use Rattle.std.proofs.lemmas.List.Sums.{count_by-le-length, length-filter, sum_by-append, sum_by-cons, sum_by-le-sum_by}
use Rattle.lethe_advance.proofs.Lists.{filter-filter}
use Rattle.lethe_base.specs.declared.pending.Pending.{Pending}
use Rattle.lethe_cover.proofs.Common.{⊎_elim, none_in, first_is, first_or_rest}
use Rattle.lethe_cover.proofs.Lists.{Pairs, in_rest, only_in, swapped}

module _ {X : Type 0} where
  -- the elements before one of a list, and those behind it
  pub split_at : (xs : List X) (x : X) → Contains xs x → (front : List X) × (back : List X) × (xs ≡ front ++ x ∷ back)
  split_at [] x there = absurd (none_in x there)
  split_at (first ∷ xs) x there = ⊎_elim
      (λ (same : first ≡ x). ([], xs, ap (λ y. y ∷ xs) same))
      (λ rest. let more = split_at xs x rest in (first ∷ more.0, more.1, ap (λ l. first ∷ l) more.2))
      (first_or_rest first xs x there)

  -- a list whose elements differ, and all stand in another, is no longer than that
  pub no_longer : (xs ys : List X) → Pairs (λ a b. a ≢ b) xs → ((x : X) → Contains xs x → Contains ys x) → length xs ≤ length ys
  no_longer [] ys apart within = omega arith
  no_longer (x ∷ xs) ys apart within =
      let split = split_at ys x (within x (first_is x xs x refl)) in
      let rest = no_longer xs (split.0 ++ split.1) apart.1 (λ y there. ⊎_elim
      (λ stays. stays)
      (λ gone. absurd (apart.0 y there (only_in x y gone)))
      (swapped split.0 (x ∷ []) [] split.1 y (subst (λ l. Contains l y) split.2 (within y (in_rest x xs y there))))) in
      omega (arith, rest, ap length split.2, length-append split.0 (x ∷ split.1), length-append split.0 split.1)

  -- of what a filter keeps no more pass another test than of all
  pub count_kept : (p q : X → Bool) (xs : List X) → count_by p (filter q xs) ≤ count_by p xs
  count_kept p q xs =
      let same = ap length (filter-filter p q xs) in
      omega (arith, same, length-filter p (filter q xs), length-filter q (filter p xs), count_by-le-length q (filter p xs), length-filter p xs)

-- Numbers above others

above_fewer : (low high seq : ℕ) → low < high → cond (ltb high seq) 1 0 ≤ cond (ltb low seq) 1 0
above_fewer low high seq less = grind (arith, nat_tests)

not_above : (high seq : ℕ) → seq ≡ high → ◌≡◌ {A = ℕ} (cond (ltb high seq) 1 0) 0
not_above high seq same = grind (arith, nat_tests)

is_above : (low seq : ℕ) → low < seq → ◌≡◌ {A = ℕ} (cond (ltb low seq) 1 0) 1
is_above low seq less = grind (arith, nat_tests)

-- fewer erases lie above the place of one of them than above a place before that
pub fewer_above : (low high : ℕ) (erases : List Pending) (erase : Pending) → Contains erases erase → low < erase.seq → erase.seq ≡ high
    → count_by (λ (other : Pending). ltb high other.seq) erases < count_by (λ (other : Pending). ltb low other.seq) erases
fewer_above low high erases erase there above same =
    let up : Pending → ℕ = λ other. cond (ltb high other.seq) 1 0 in
    let down : Pending → ℕ = λ other. cond (ltb low other.seq) 1 0 in
    let split = split_at erases erase there in
    let less : low < high = omega (arith, above, same) in
    let front = sum_by-le-sum_by up down split.0 (λ other. above_fewer low high other.seq less) in
    let back = sum_by-le-sum_by up down split.1 (λ other. above_fewer low high other.seq less) in
    let upper : sum_by up erases ≡ sum_by up split.0 + (up erase + sum_by up split.1) =
    omega (arith, ap (sum_by up) split.2, sum_by-append up split.0 (erase ∷ split.1), sum_by-cons up erase split.1) in
    let lower : sum_by down erases ≡ sum_by down split.0 + (down erase + sum_by down split.1) =
    omega (arith, ap (sum_by down) split.2, sum_by-append down split.0 (erase ∷ split.1), sum_by-cons down erase split.1) in
    omega (arith, upper, lower, front, back, not_above high erase.seq same, is_above low erase.seq above)
