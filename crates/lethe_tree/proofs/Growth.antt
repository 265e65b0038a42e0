-- Bounds of a balanced tree.
use Rattle.std.proofs.Common.{◌≡◌, ℕ, zero, suc, ◌+◌, ◌≤◌, ◌⊎◌, inl, inr, max, min, arith}
use Rattle.std.specs.Prelude.{◌^◌, ◌*◌}
use Rattle.std.proofs.Math.Pow.{pow_mono}
use Rattle.std.proofs.Math.Nat.{mul-le-mul_left, mul-le-mul_right, pow-suc}
use Rattle.lethe_tree.specs.Settled.{IsHeightOf}
use Rattle.lethe_tree.specs.Shape.{Shape, Leaf, Fork, IsBalanced, height, size}

either : (a b : ℕ) → (a ≤ b) ⊎ (b ≤ a)
either zero b = inl (omega arith)
either (suc a) zero = inr (omega arith)
either (suc a) (suc b) = elim (either a b) [ inl h ↦ inl (omega arith) | inr h ↦ inr (omega arith) ]

twice : (a b p : ℕ) → a ≤ b → p ≤ a * a → 4 * p ≤ (a + b) * (a + b)
twice a b p le h =
    let low : (a + a) * (a + a) ≤ (a + a) * (a + b) = mul-le-mul_left (a + a) (omega arith) in
    let high : (a + a) * (a + b) ≤ (a + b) * (a + b) = mul-le-mul_right (a + b) (omega arith) in
    grind arith

-- what is in both squares is four times in the square of their sum
four : (a b p : ℕ) → p ≤ a * a → p ≤ b * b → 4 * p ≤ (a + b) * (a + b)
four a b p ha hb = elim (either a b) [
  | inl le ↦ twice a b p le ha
  | inr le ↦ let h = twice b a p le hb in grind arith
]

pow_plus_2 : (m : ℕ) → 2 ^ (m + 2) ≡ 4 * 2 ^ m
pow_plus_2 m = let a = pow-suc 2 (m + 1) in let b = pow-suc 2 m in grind arith

-- a balanced tree of a height has no fewer nodes than that
pub many : (t : Shape) → IsBalanced t → 2 ^ height t ≤ (size t + 1) * (size t + 1)
many Leaf balanced = omega arith
many (Fork l i r) balanced =
    let m = min (height l) (height r) in
    let a : 2 ^ m ≤ (size l + 1) * (size l + 1) = let x = pow_mono {i = m} {j = height l} (omega arith) in let y = many l balanced.1.0 in omega (arith, x, y) in
    let b : 2 ^ m ≤ (size r + 1) * (size r + 1) = let x = pow_mono {i = m} {j = height r} (omega arith) in let y = many r balanced.1.1 in omega (arith, x, y) in
    let c = four (size l + 1) (size r + 1) (2 ^ m) a b in
    let d = pow_mono {i = max (height l) (height r) + 1} {j = m + 2} (let h = balanced.0 in grind arith) in
    let e = pow_plus_2 m in
    grind arith

-- how high a node is whose one side grew
pub heights : (l r grown h : ℕ) → l ≤ r + 1 → r ≤ l + 1 → l ≤ grown → grown ≤ l + 1 → IsHeightOf grown r h → (max l r + 1 ≤ h) × (h ≤ max l r + 2)
heights l r grown h a b c d is = elim (either grown (r + 1)) [
  | inl low ↦ let e = is.2 (low, omega arith) in (grind arith, grind arith)
  | inr high ↦ let e = is.0 in let f = is.1 in (grind arith, grind arith)
]

pub heights_right : (l r grown h : ℕ) → l ≤ r + 1 → r ≤ l + 1 → r ≤ grown → grown ≤ r + 1 → IsHeightOf l grown h → (max l r + 1 ≤ h) × (h ≤ max l r + 2)
heights_right l r grown h a b c d is = elim (either grown (l + 1)) [
  | inl low ↦ let e = is.2 (omega arith, low) in (grind arith, grind arith)
  | inr high ↦ let e = is.0 in let f = is.1 in (grind arith, grind arith)
]
