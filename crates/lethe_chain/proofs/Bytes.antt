-- A list of bytes with a gate in it, and what two writes make of it: one behind the gate, one of the gate.
use Rattle.std.proofs.Common.{◌≡◌, ℕ, ◌+◌, List, [], ◌∷◌, ◌++◌, length, get_or, take, drop, sym, ◌∙◌, ap, arith, append_assoc, length-append, take-append-drop}
use Rattle.std.proofs.lemmas.List.{take_at, drop_at, drop_more, take_all, drop_all, append-nil}
use Rattle.lethe_disk.specs.Directory.{Torn, written}

module _ (front : List ℕ) (at : ℕ) (place : length front ≡ at) where
  gate_long : (gate : ℕ) → length (front ++ gate ∷ []) ≡ at + 1
  gate_long gate = length-append front (gate ∷ []) ∙ ap (λ k. k + 1) place

  -- the closed gate stands in each outcome of a write behind it
  pub torn_behind : (n : ℕ) (left : List ℕ) → Torn (at + 1) n (front ++ 0 ∷ []) left → (rest : List ℕ) × (left ≡ front ++ 0 ∷ rest)
  torn_behind n left torn =
      let kept : take (at + 1) left ≡ front ++ 0 ∷ [] = torn.before ∙ take_all (at + 1) (front ++ 0 ∷ []) (omega (arith, gate_long 0)) in
      (drop (at + 1) left, sym (take-append-drop (at + 1) left) ∙ ap (λ (l : List ℕ). l ++ drop (at + 1) left) kept ∙ append_assoc front (0 ∷ []) (drop (at + 1) left))

  pub written_behind : (tail : List ℕ) → written (front ++ 0 ∷ []) (at + 1) tail ≡ front ++ 0 ∷ tail
  written_behind tail =
      ap (λ (l : List ℕ). l ++ tail ++ drop (at + 1 + length tail) (front ++ 0 ∷ [])) (take_all (at + 1) (front ++ 0 ∷ []) (omega (arith, gate_long 0)))
      ∙ ap (λ (l : List ℕ). (front ++ 0 ∷ []) ++ tail ++ l) (drop_all (at + 1 + length tail) (front ++ 0 ∷ []) (omega (arith, gate_long 0)))
      ∙ append-nil ((front ++ 0 ∷ []) ++ tail)
      ∙ append_assoc front (0 ∷ []) tail

  behind_gate : (tail : List ℕ) (gate : ℕ) → drop (at + 1) (front ++ gate ∷ tail) ≡ tail
  behind_gate tail gate = ap (drop (at + 1)) (sym (append_assoc front (gate ∷ []) tail)) ∙ drop_at (front ++ gate ∷ []) tail (at + 1) (gate_long gate)

  -- what stands behind the gate is whole in each outcome of a write of the gate
  pub torn_gate : (tail left : List ℕ) → Torn at 1 (front ++ 0 ∷ tail) left → (gate : ℕ) × (left ≡ front ++ gate ∷ tail)
  torn_gate tail left torn =
      let gate = get_or left at 0 in
      let long : length (front ++ 0 ∷ tail) ≡ at + (length tail + 1) = length-append front (0 ∷ tail) ∙ omega (arith, place) in
      let rest : drop at left ≡ gate ∷ tail = drop_more left at 0 (omega (arith, long, torn.no_shorter)) ∙ ap (λ (l : List ℕ). gate ∷ l) (torn.after ∙ behind_gate tail 0) in
      (gate, sym (take-append-drop at left) ∙ ap (λ (l : List ℕ). l ++ drop at left) (torn.before ∙ take_at front (0 ∷ tail) at place) ∙ ap (λ (l : List ℕ). front ++ l) rest)

  pub written_gate : (tail : List ℕ) → written (front ++ 0 ∷ tail) at (1 ∷ []) ≡ front ++ 1 ∷ tail
  written_gate tail =
      ap (λ (l : List ℕ). l ++ (1 ∷ []) ++ drop (at + 1) (front ++ 0 ∷ tail)) (take_at front (0 ∷ tail) at place)
      ∙ ap (λ (l : List ℕ). front ++ (1 ∷ []) ++ l) (behind_gate tail 0)
      ∙ append_assoc front (1 ∷ []) tail
