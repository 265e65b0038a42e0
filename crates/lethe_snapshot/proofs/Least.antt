-- The least of some times.
use Rattle.std.proofs.Common.{◌≡◌, ◌⊎◌, inl, inr, ℕ, ◌+◌, ◌<◌, min, List, [], ◌∷◌, ◌++◌, length, get_or, take, Any, refl, sym, ap, ◌∙◌, subst, arith}
use Rattle.std.proofs.Math.Seq.{take-length}
use Rattle.std.proofs.lemmas.List.{take_more}
use Rattle.std.proofs.lemmas.List.Elements.{Contains-append_left, Contains-push, Contains-push_cases}
use Rattle.lethe_snapshot.specs.Times.{IsLeast}

-- the times that one of the items has
abbrev pub HasAny : {X : Type 0} → (X → ℕ → Type 0) → List X → ℕ → Type 0
HasAny Has xs time = Any (λ x. Has x time) xs

-- of a time and another
pub least_of_two : (given time least : ℕ) → least ≡ min given time → IsLeast given (λ t. time ≡ t) least
least_of_two given time least is = record { upto = omega (arith, is); each = λ t same. omega (arith, is, same); one = by }
  where
    by : (least ≡ given) ⊎ (time ≡ least)
    by = grind arith

-- some first, then others
pub least_then : (given first least : ℕ) (A B C : ℕ → Type 0) → IsLeast given A first → IsLeast first B least
    → ((time : ℕ) → C time → A time ⊎ B time) → ((time : ℕ) → A time → C time) → ((time : ℕ) → B time → C time) → IsLeast given C least
least_then given first least A B C front rest from left right = record {
  upto = let a = front.upto in let b = rest.upto in omega (arith, a, b);
  each = λ time has. elim (from time has) [ inl a ↦ let low = front.each time a in let upto = rest.upto in omega (arith, low, upto) | inr b ↦ rest.each time b ];
  one = elim rest.one [
    | inl same ↦ elim front.one [ inl given_is ↦ inl (same ∙ given_is) | inr had ↦ inr (left least (subst A (sym same) had)) ]
    | inr had ↦ inr (right least had)
  ];
}

pub least_either : (given first least : ℕ) (A B : ℕ → Type 0) → IsLeast given A first → IsLeast first B least → IsLeast given (λ t. A t ⊎ B t) least
least_either given first least A B front rest = least_then given first least A B (λ t. A t ⊎ B t) front rest (λ time has. has) (λ time a. inl a) (λ time b. inr b)

module _ {X : Type 0} (Has : X → ℕ → Type 0) (given : ℕ) where
  -- of no items
  pub least_none : IsLeast given (HasAny Has []) given
  least_none = record { upto = omega arith; each = λ time has. absurd (omega (arith, has.2)); one = inl refl }

  -- of one item more
  pub least_more : (xs : List X) (i : ℕ) (x : X) (first least : ℕ) → i < length xs → x ≡ get_or xs i x → IsLeast given (HasAny Has (take i xs)) first → IsLeast first (Has x) least
      → IsLeast given (HasAny Has (take (i + 1) xs)) least
  least_more xs i x first least within is front rest = subst (λ (all : List X). IsLeast given (HasAny Has all) least) (sym longer) (least_then given first least (HasAny Has (take i xs)) (Has x) (HasAny Has (take i xs ++ x ∷ []))
      front rest
      (λ time has. elim (Contains-push_cases (take i xs) x has.1 (has.0, has.2, has.3)) [ inl there ↦ inl (there.0, has.1, there.1, there.2, has.4) | inr same ↦ inr (subst (λ x. Has x time) (sym same) has.4) ])
      (λ time has. let there = Contains-append_left (take i xs) (x ∷ []) has.1 (has.0, has.2, has.3) in (there.0, has.1, there.1, there.2, has.4))
      (λ time has. let there = Contains-push (take i xs) x in (there.0, x, there.1, there.2, has)))
    where
      longer : take (i + 1) xs ≡ take i xs ++ x ∷ []
      longer = take_more xs i x within ∙ ap (λ y. take i xs ++ y ∷ []) (sym is)

  -- of all
  pub least_all : (xs : List X) (i least : ℕ) → i ≡ length xs → IsLeast given (HasAny Has (take i xs)) least → IsLeast given (HasAny Has xs) least
  least_all xs i least end is = subst (λ (all : List X). IsLeast given (HasAny Has all) least) (ap (λ n. take n xs) end ∙ take-length xs) is

-- of the same times
pub least_same : (given least : ℕ) (A B : ℕ → Type 0) → ((time : ℕ) → A time → B time) → ((time : ℕ) → B time → A time) → IsLeast given A least → IsLeast given B least
least_same given least A B to from is = record {
  upto = is.upto;
  each = λ time has. is.each time (from time has);
  one = elim is.one [ inl same ↦ inl same | inr has ↦ inr (to least has) ];
}
