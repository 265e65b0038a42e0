-- Sums over parts of a list, and over two levels of files.
use Rattle.std.proofs.Common.{◌≡◌, ℕ, ◌+◌, ◌*◌, ◌≤◌, Bool, true, false, cond, eqb, List, [], ◌∷◌, ◌++◌, All, refl, sym, ap, ◌∙◌, arith}
use Rattle.std.specs.Prelude.{filter, sum_by}
use Rattle.std.proofs.lemmas.Bool.Decides.{nat_tests}
use Rattle.std.proofs.lemmas.List.Elements.{All-head, All-tail}
use Rattle.std.proofs.lemmas.List.Sums.{sum_by-append, sum_by-cons}
use Rattle.lethe_follows.specs.Merged.{at}
use Rattle.lethe_stored.specs.Files.{StoredFile}

module _ {X : Type 0} where
  -- of what is filtered
  pub kept_sum : (f : X → ℕ) (p : X → Bool) (xs : List X) → sum_by f (filter p xs) ≡ sum_by (λ x. cond (p x) (f x) 0) xs
  kept_sum f p [] = refl
  kept_sum f p (x ∷ xs) = by (p x) ∙ ap (λ n. cond (p x) (f x) 0 + n) (kept_sum f p xs) ∙ sym (sum_by-cons (λ x. cond (p x) (f x) 0) x xs)
    where
      by : (b : Bool) → sum_by f (cond b (x ∷ filter p xs) (filter p xs)) ≡ cond b (f x) 0 + sum_by f (filter p xs)
      by true = sum_by-cons f x (filter p xs)
      by false = omega arith

  pub two_sums : (f g h : X → ℕ) → ((x : X) → f x + g x ≤ h x) → (xs : List X) → sum_by f xs + sum_by g xs ≤ sum_by h xs
  two_sums f g h each [] = omega arith
  two_sums f g h each (x ∷ xs) = omega (arith, each x, two_sums f g h each xs, sum_by-cons f x xs, sum_by-cons g x xs, sum_by-cons h x xs)

  -- of so many times as much
  pub scaled : (times : ℕ) (f g : X → ℕ) (xs : List X) → All (λ x. f x ≡ times * g x) xs → sum_by f xs ≡ times * sum_by g xs
  scaled times f g [] each = omega arith
  scaled times f g (x ∷ xs) each =
      let here = All-head (λ x. f x ≡ times * g x) x xs each in
      let rest = scaled times f g xs (All-tail (λ x. f x ≡ times * g x) x xs each) in
      omega (arith, here, rest, sum_by-cons f x xs, ap (λ n. times * n) (sum_by-cons g x xs))

  -- of what is among others
  pub part_sum : (f : X → ℕ) (before xs behind : List X) → sum_by f xs ≤ sum_by f (before ++ (xs ++ behind))
  part_sum f before xs behind = omega (arith, sum_by-append f before (xs ++ behind), sum_by-append f xs behind)

-- two levels have no file in common
pub two_levels : (f : StoredFile → ℕ) (level : ℕ) (files : List StoredFile) → sum_by f (at level files) + sum_by f (at (level + 1) files) ≤ sum_by f files
two_levels f level files =
    let one = kept_sum f (λ file. eqb file.level level) files in
    let two = kept_sum f (λ file. eqb file.level (level + 1)) files in
    let both = two_sums (λ file. cond (eqb file.level level) (f file) 0) (λ file. cond (eqb file.level (level + 1)) (f file) 0) f (λ file. apart file) files in
    omega (arith, one, two, both)
  where
    apart : (file : StoredFile) → cond (eqb file.level level) (f file) 0 + cond (eqb file.level (level + 1)) (f file) 0 ≤ f file
    apart file = grind (arith, nat_tests)
