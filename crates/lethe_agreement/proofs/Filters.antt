-- The words of a filter are told by its bits.
use Rattle.std.proofs.Common.{◌≡◌, ℕ, zero, suc, ◌+◌, ◌*◌, ◌/◌, ◌%◌, ◌<◌, List, length, get_or, refl, ap, sym, ◌∙◌, arith}
use Rattle.std.specs.Int.{bit_at}
use Rattle.std.proofs.lemmas.Grind.{same_number_lists}
use Rattle.std.proofs.lemmas.Nat.Bits.{bit_at-lt, same_from_bits_below}
use Rattle.lethe_base.specs.Keys.{Bytes}
use Rattle.lethe_file.specs.Agreement.{IsFilterOf}

same_bit : (a b : ℕ) → a < 2 → b < 2 → (a ≡ 1 → b ≡ 1) → (b ≡ 1 → a ≡ 1) → a ≡ b
same_bit zero zero few few' to from = refl
same_bit zero (suc b) few few' to from = let one : suc b ≡ 1 = omega (arith, few') in from one ∙ sym one
same_bit (suc a) b few few' to from = let one : suc a ≡ 1 = omega (arith, few) in one ∙ sym (to one)

-- where bit i of word k stands
bit_there : (words : List ℕ) (k i : ℕ) → i < 64 → bit_at (get_or words ((64 * k + i) / 64) 0) ((64 * k + i) % 64) ≡ bit_at (get_or words k 0) i
bit_there words k i lt =
    let word : (64 * k + i) / 64 ≡ k = omega arith in
    let bit : (64 * k + i) % 64 ≡ i = omega arith in
    ap (λ (w : ℕ). bit_at (get_or words w 0) ((64 * k + i) % 64)) word ∙ ap (bit_at (get_or words k 0)) bit

-- a bit of one filter is one of the other
bit_too : (keys : List Bytes) (a b : List ℕ) → IsFilterOf keys a → IsFilterOf keys b → (k i : ℕ) → i < 64 → bit_at (get_or a k 0) i ≡ 1 → bit_at (get_or b k 0) i ≡ 1
bit_too keys a b p q k i lt set =
    sym (bit_there b k i lt) ∙ (q.bits (64 * k + i)).1 ((p.bits (64 * k + i)).0 (bit_there a k i lt ∙ set))

-- two filters of the same keys are one
pub one_filter : (keys : List Bytes) (a b : List ℕ) → IsFilterOf keys a → IsFilterOf keys b → a ≡ b
one_filter keys a b p q = same_number_lists a b len each
  where
    len : length a ≡ length b
    len = omega (arith, p.len, q.len)

    each : (k : ℕ) → k < length a → get_or a k 0 ≡ get_or b k 0
    each k lt =
        same_from_bits_below 64 (get_or a k 0) (get_or b k 0) (p.each k 0 lt) (q.each k 0 (omega (arith, len)))
        (λ i below. same_bit (bit_at (get_or a k 0) i) (bit_at (get_or b k 0) i) (bit_at-lt (get_or a k 0) i) (bit_at-lt (get_or b k 0) i) (bit_too keys a b p q k i below) (bit_too keys b a q p k i below))
