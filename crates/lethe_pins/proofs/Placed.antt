-- A pin that comes to those that are held.
use Rattle.std.proofs.Common.{◌≡◌, ◌≢◌, ℕ, suc, ◌+◌, ◌<◌, ◌≤◌, Bool, true, false, cond, ltb, List, [], ◌∷◌, All, AllPairs, Some, refl, sym, subst, arith}
use Rattle.std.specs.List.{slice_get}
use Rattle.std.proofs.lemmas.List.Elements.{All-nil, All-cons, All-head, All-tail, All-weaker}
use Rattle.std.proofs.lemmas.List.Kept.{AllPairs-cons}
use Rattle.std.proofs.lemmas.Bool.{ltb-true, ltb-false}
use Rattle.lethe_base.specs.Limits.{max_place}
use Rattle.lethe_pins.specs.declared.pin.Pin.{Pin}
use Rattle.lethe_pins.specs.Held.{AreHeld, Ascend, ComesBefore, IsFirst, IsGiven, placed}

-- a relation of each item to all later ones, item by item

pub pairs_nil : {X : Type 0} (R : X → X → Type 0) → AllPairs R []
pairs_nil R i j d lt below = absurd (omega (arith, below))

pub pairs_head : {X : Type 0} (R : X → X → Type 0) (x : X) (xs : List X) → AllPairs R (x ∷ xs) → All (R x) xs
pairs_head R x xs h k d below = h 0 (suc k) d (omega arith) (omega arith)

pub pairs_tail : {X : Type 0} (R : X → X → Type 0) (x : X) (xs : List X) → AllPairs R (x ∷ xs) → AllPairs R xs
pairs_tail R x xs h i j d lt below = h (suc i) (suc j) d (omega arith) (omega arith)

pub all_placed : (P : Pin → Type 0) (pin : Pin) (pins : List Pin) → P pin → All P pins → All P (placed pin pins)
all_placed P pin [] one all = All-cons P pin [] one (All-nil P)
all_placed P pin (first ∷ pins) one all = by (ltb pin.limit first.limit) (all_placed P pin pins one (All-tail P first pins all))
  where
    by : (b : Bool) → All P (placed pin pins) → All P (cond b (pin ∷ first ∷ pins) (first ∷ placed pin pins))
    by true rest = All-cons P pin (first ∷ pins) one all
    by false rest = All-cons P first (placed pin pins) (All-head P first pins all) rest

-- the relation has to hold of those that the pin comes behind, and of those of a greater limit
pub pairs_placed : (R : Pin → Pin → Type 0) (pin : Pin) (pins : List Pin) → AllPairs ComesBefore pins → All (λ other. other.limit ≤ pin.limit → R other pin) pins
    → All (λ other. pin.limit < other.limit → R pin other) pins → AllPairs R pins → AllPairs R (placed pin pins)
pairs_placed R pin [] ordered low high pairs = AllPairs-cons R pin [] (All-nil (R pin)) (pairs_nil R)
pairs_placed R pin (first ∷ pins) ordered low high pairs =
    by (ltb pin.limit first.limit) refl
    (pairs_placed R pin pins (pairs_tail ComesBefore first pins ordered) (All-tail (λ other. other.limit ≤ pin.limit → R other pin) first pins low)
    (All-tail (λ other. pin.limit < other.limit → R pin other) first pins high) (pairs_tail R first pins pairs))
  where
    from_first : All (λ other. first.limit ≤ other.limit) (first ∷ pins)
    from_first = All-cons (λ other. first.limit ≤ other.limit) first pins (omega arith)
        (All-weaker (ComesBefore first) (λ other. first.limit ≤ other.limit) (λ other before. before.limit) pins (pairs_head ComesBefore first pins ordered))

    by : (b : Bool) → ltb pin.limit first.limit ≡ b → AllPairs R (placed pin pins) → AllPairs R (cond b (pin ∷ first ∷ pins) (first ∷ placed pin pins))
    by true is rest =
        let less : pin.limit < first.limit = ltb-true _ _ is in
        AllPairs-cons R pin (first ∷ pins) (λ k d lt. high k d lt (omega (arith, less, from_first k d lt))) pairs
    by false is rest =
        let more : first.limit ≤ pin.limit = ltb-false _ _ is in
        AllPairs-cons R first (placed pin pins)
        (all_placed (R first) pin pins (All-head (λ other. other.limit ≤ pin.limit → R other pin) first pins low more) (pairs_head R first pins pairs))
        rest

-- with a pin of the next number
pub one_held : (pins new : List Pin) (made : ℕ) (pin : Pin) → AreHeld (record { pins = pins; made = made }) → made ≢ max_place → pin.number ≡ made + 1 → Ascend pin.names
    → new ≡ placed pin pins → AreHeld (record { pins = new; made = made + 1 })
one_held pins new made pin held room is rise comes = subst (λ l. AreHeld (record { pins = l; made = made + 1 })) (sym comes) (record {
  made = omega (arith, held.made, room);
  given = all_placed (IsGiven (made + 1)) pin pins (record { from = omega (arith, is); to = omega (arith, is) })
      (All-weaker (IsGiven made) (IsGiven (made + 1)) (λ other given. record { from = given.from; to = omega (arith, given.to) }) pins held.given);
  once = pairs_placed (λ a b. a.number ≢ b.number) pin pins held.ordered
      (λ k d lt low same. absurd (omega (arith, (held.given k d lt).to, is, same)))
      (λ k d lt high same. absurd (omega (arith, (held.given k d lt).to, is, same))) held.once;
  ordered = pairs_placed ComesBefore pin pins held.ordered
      (λ k d lt low. record { limit = low; number = λ same. omega (arith, (held.given k d lt).to, is) })
      (λ k d lt high. record { limit = omega (arith, high); number = λ same. absurd (omega (arith, high, same)) }) held.ordered;
  names = all_placed (λ other. Ascend other.names) pin pins rise held.names;
})

-- the first one comes before all others
pub first_is_least : (pins : List Pin) (pin : Pin) → AllPairs ComesBefore pins → Some pin ≡ slice_get pins 0 → All (IsFirst pin.number pin.limit) pins
first_is_least [] pin ordered is = absurd cc
first_is_least (first ∷ pins) pin ordered is =
    let same : first ≡ pin = cc in
    subst (λ (x : Pin). All (IsFirst x.number x.limit) (first ∷ pins)) same
    (All-cons (IsFirst first.number first.limit) first pins (record { limit = omega arith; number = λ same. omega arith })
    (All-weaker (ComesBefore first) (IsFirst first.number first.limit) (λ other before. record { limit = before.limit; number = λ same. omega (arith, before.number same) }) pins
    (pairs_head ComesBefore first pins ordered)))
