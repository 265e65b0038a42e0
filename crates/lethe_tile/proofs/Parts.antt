-- Lists cut into parts.
use Rattle.std.proofs.Common.{◌≡◌, ℕ, ◌<◌, ◌≤◌, ◌⊎◌, List, [], ◌∷◌, ◌++◌, length, All, refl, ap, ◌∙◌, inl, inr, append_assoc, append-nil, length-append, arith}
use Rattle.std.proofs.lemmas.Bool.{cases_order}
use Rattle.std.proofs.lemmas.List.Concat.{flat_map-append}
use Rattle.std.proofs.lemmas.List.Elements.{All-push, All-head, All-tail}
use Rattle.lethe_tile.specs.Woven.{joined, IsCut}

-- the parts so far, the part that is being filled, and what is left
pub record IsCutting {X : Type 0} (most : ℕ) (parts : List (List X)) (part rest whole : List X) : Type 0 where
  pub is : joined parts ++ (part ++ rest) ≡ whole
  pub full : All (λ p. length p ≡ most) parts
  pub within : length part ≤ most
  pub begun : (parts ≡ []) ⊎ (0 < length part)

pub cutting_none : {X : Type 0} (most : ℕ) (whole : List X) → IsCutting most [] [] whole whole
cutting_none most whole = record { is = refl; full = λ k d below. absurd (omega (arith, below)); within = omega arith; begun = inl refl }

pub joined_push : {X : Type 0} (parts : List (List X)) (part : List X) → joined (parts ++ part ∷ []) ≡ joined parts ++ part
joined_push parts part = flat_map-append (λ p. p) parts (part ∷ []) ∙ ap (λ xs. joined parts ++ xs) (append-nil part)

pub cutting_more : {X : Type 0} (most : ℕ) (parts : List (List X)) (part : List X) (x : X) (rest whole : List X)
    → IsCutting most parts part (x ∷ rest) whole → length part < most → IsCutting most parts (part ++ x ∷ []) rest whole
cutting_more most parts part x rest whole before room = record {
  is = ap (λ xs. joined parts ++ xs) (append_assoc part (x ∷ []) rest) ∙ before.is;
  full = before.full;
  within = omega (arith, length-append part (x ∷ []));
  begun = inr (omega (arith, length-append part (x ∷ [])));
}

pub cutting_next : {X : Type 0} (most : ℕ) (parts : List (List X)) (part : List X) (x : X) (rest whole : List X)
    → 0 < most → IsCutting most parts part (x ∷ rest) whole → length part ≡ most → IsCutting most (parts ++ part ∷ []) (x ∷ []) rest whole
cutting_next most parts part x rest whole some before full = record {
  is = ap (λ xs. xs ++ (x ∷ rest)) (joined_push parts part) ∙ append_assoc (joined parts) part (x ∷ rest) ∙ before.is;
  full = All-push (λ p. length p ≡ most) parts part before.full full;
  within = omega arith;
  begun = inr (omega arith);
}

-- full parts, and one that isn't empty behind them
pub cut_from_full : {X : Type 0} (most : ℕ) (parts : List (List X)) (part : List X) → All (λ p. length p ≡ most) parts → 0 < length part → length part ≤ most → IsCut most (parts ++ part ∷ [])
cut_from_full most [] part full some within = (some, within)
cut_from_full most (first ∷ []) part full some within = (All-head (λ p. length p ≡ most) first [] full, (some, within))
cut_from_full most (first ∷ second ∷ parts) part full some within =
    (All-head (λ p. length p ≡ most) first (second ∷ parts) full, cut_from_full most (second ∷ parts) part (All-tail (λ p. length p ≡ most) first (second ∷ parts) full) some within)

pub empty_is : {X : Type 0} (xs : List X) → length xs ≡ 0 → xs ≡ []
empty_is [] none = refl
empty_is (x ∷ xs) none = absurd (omega arith)

-- a turn of the loop: where the part is full it goes to the others first
pub cutting_turn : {X : Type 0} (most : ℕ) (parts parts' : List (List X)) (part part' new : List X) (x : X) (rest whole : List X)
    → 0 < most → IsCutting most parts part (x ∷ rest) whole
    → ((length part ≡ most) × (parts' ≡ parts ++ part ∷ []) × (part' ≡ [])) ⊎ ((length part ≡ most → ⊥) × (parts' ≡ parts) × (part' ≡ part))
    → new ≡ part' ++ x ∷ [] → IsCutting most parts' new rest whole
cutting_turn most parts parts' part part' new x rest whole some before branch pushed =
    elim branch [
      | inl full ↦ rw (pushed, full.1, full.2) (cutting_next most parts part x rest whole some before full.0)
      | inr room ↦
          let within : length part ≤ most = before.within in
          let other = room.0 in
          rw (pushed, room.1, room.2) (cutting_more most parts part x rest whole before (elim (cases_order (length part) most) [ inl same ↦ absurd (other same) | inr apart ↦ elim apart [ inl lt ↦ lt | inr gt ↦ absurd (omega arith) ] ]))
    ]

-- the end of the loop
pub cutting_end : {X : Type 0} (most : ℕ) (parts parts' : List (List X)) (part rest whole : List X) → IsCutting most parts part rest whole
    → ((0 < length part) × (parts' ≡ parts ++ part ∷ [])) ⊎ ((length part ≡ 0) × (parts' ≡ parts)) → IsCut most parts'
cutting_end most parts parts' part rest whole before branch =
    elim branch [
      | inl some ↦ rw some.1 (cut_from_full most parts part before.full some.0 before.within)
      | inr none ↦ elim before.begun [ inl first ↦ rw (none.1, first) tt | inr begun ↦ absurd (omega (arith, none.0)) ]
    ]
