-- What follows from a diary: how many pins were made, and that each held pin was held at the opening or made since, and not let go behind that.
use Rattle.std.proofs.Common.{◌≡◌, ◌≢◌, inl, inr, ◌≤◌, Option, Some, None, ℕ, ◌+◌, Bool, true, false, not, List, [], ◌∷◌, ◌++◌, length, cond, map, refl, sym, ap, ◌∙◌, subst, arith}
use Rattle.std.specs.Prelude.{◌⊎◌, ◌==◌, All, Contains, filter, nat_lt}
use Rattle.std.proofs.lemmas.List.{map-append}
use Rattle.std.proofs.lemmas.List.Elements.{All-cons, All-contains, All-contains_itself, All-filter, All-head, All-nil, All-tail, All-weaker, filter_map-append, filter_passes}
use Rattle.std.proofs.lemmas.Bool.{eq-eqb}
use Rattle.lethe_base.specs.declared.refused.Refused.{Refused}
use Rattle.lethe_base.specs.declared.refused.Refused.TheVariants.{Fault, Stopped, Backwards, Pinned, NothingDue, Cancelled, Exhausted, ReadFault, NoMemory, Damaged}
use Rattle.lethe_cert.specs.declared.certificate.Certificate.{Certificate}
use Rattle.lethe_pins.specs.Held.{placed_by}
use Rattle.lethe_core.specs.View.{Face, Limited}
use Rattle.lethe_store.specs.declared.entry.Mark.{Mark}
use Rattle.lethe_store.specs.declared.entry.Mark.TheVariants.{Round, Certified, Made, Released, Spent}
use Rattle.lethe_store.specs.Diary.{AreNumbered, IsHeldBehind, IsUnreleased, answered_in, certified_by, certified_in, face_along, face_by, limited, made_by, made_in, spent_by}

pub made-append : (a b : List Mark) → made_in (a ++ b) ≡ made_in a ++ made_in b
made-append a b = filter_map-append made_by a b

pub certified-append : (a b : List Mark) → certified_in (a ++ b) ≡ certified_in a ++ certified_in b
certified-append a b = filter_map-append certified_by a b

pub answered-append : (a b : List Mark) → answered_in (a ++ b) ≡ answered_in a ++ answered_in b
answered-append a b = ap (map (λ (told : ℕ × Certificate). told.1)) (certified-append a b) ∙ map-append (λ (told : ℕ × Certificate). told.1) (certified_in a) (certified_in b)

pub numbered-append : (next : ℕ) (a b : List Limited) → AreNumbered next a → AreNumbered (next + length a) b → AreNumbered next (a ++ b)
numbered-append next [] b first second = subst (λ n. AreNumbered n b) (let e : next + 0 ≡ next = omega arith in e) second
numbered-append next (pin ∷ a) b first second = (first.0, numbered-append (next + 1) a b first.1 (subst (λ n. AreNumbered n b) (let e : next + length (pin ∷ a) ≡ next + 1 + length a = omega arith in e) second))

-- as many pins were made as the diary has
pub made_along : (face : Face) (marks : List Mark) → AreNumbered (face.made + 1) (made_in marks) → (face_along face marks).made ≡ face.made + length (made_in marks)
made_along face [] are = (let e : face.made ≡ face.made + 0 = omega arith in e)
made_along face (Round ∷ marks) are = made_along (face_by face Round) marks are
made_along face (Certified place certificate ∷ marks) are = made_along face marks are
made_along face (Made number limit ∷ marks) are =
    let n : number ≡ face.made + 1 = are.0 in
    let rest = made_along (face_by face (Made number limit)) marks (subst (λ n. AreNumbered (n + 1) (made_in marks)) (sym n) are.1) in
    rest ∙ (let e : number + length (made_in marks) ≡ face.made + length (limited number limit ∷ made_in marks) = omega arith in e)
made_along face (Released number ∷ marks) are = made_along (face_by face (Released number)) marks are
made_along face (Spent ∷ marks) are = made_along face marks are

-- no mark takes a round back
pub rounds_rise : (face : Face) (marks : List Mark) → face.rounds ≤ (face_along face marks).rounds
rounds_rise face [] = omega arith
rounds_rise face (Round ∷ marks) = let rest = rounds_rise (face_by face Round) marks in omega (arith, rest)
rounds_rise face (Certified place certificate ∷ marks) = rounds_rise face marks
rounds_rise face (Made number limit ∷ marks) = rounds_rise (face_by face (Made number limit)) marks
rounds_rise face (Released number ∷ marks) = rounds_rise (face_by face (Released number)) marks
rounds_rise face (Spent ∷ marks) = rounds_rise face marks

-- what holds of no mark and of one that numbers are used up holds of what a refusal notes
pub spent_either : (P : List Mark → Type 0) (why : Option Refused) → P [] → ((last : ℕ) → why ≡ Some (Exhausted last) → P (Spent ∷ [])) → P (spent_by why)
spent_either P None none one = none
spent_either P (Some (Exhausted last)) none one = one last refl
spent_either P (Some (Fault place before after)) none one = none
spent_either P (Some (Stopped at)) none one = none
spent_either P (Some (Backwards clock)) none one = none
spent_either P (Some (Pinned pin limit)) none one = none
spent_either P (Some NothingDue) none one = none
spent_either P (Some (Cancelled begun other)) none one = none
spent_either P (Some (ReadFault before after)) none one = none
spent_either P (Some NoMemory) none one = none
spent_either P (Some (Damaged name)) none one = none

-- Held pins

all_placed : {X : Type 0} (P : X → Type 0) (limit_of : X → ℕ) (x : X) (xs : List X) → P x → All P xs → All P (placed_by limit_of x xs)
all_placed P limit_of x [] one all = All-cons P x [] one all
all_placed {X} P limit_of x (y ∷ xs) one all = by (nat_lt (limit_of x) (limit_of y)) (all_placed P limit_of x xs one (All-tail P y xs all))
  where
    by : (b : Bool) → All P (placed_by limit_of x xs) → All P (cond b (x ∷ y ∷ xs) (y ∷ placed_by limit_of x xs))
    by true later = All-cons P x (y ∷ xs) one all
    by false later = All-cons P y (placed_by limit_of x xs) (All-head P y xs all) later

-- the pin was held behind the first mark for the rest, so it was before
abbrev WasHeld : Face → Mark → List Mark → Limited → Type 0
WasHeld face mark marks pin = IsHeldBehind face.held (mark ∷ marks) pin

unreleased_by : (number : ℕ) (mark : Mark) (marks : List Mark) → mark ≢ Released number → IsUnreleased number marks → IsUnreleased number (mark ∷ marks)
unreleased_by number mark marks other rest = All-cons (λ mark. mark ≢ Released number) mark marks other rest

-- where the mark lets no pin go
held_still : (face : Face) (mark : Mark) (marks : List Mark) (pin : Limited) → mark ≢ Released pin.number → IsHeldBehind face.held marks pin → WasHeld face mark marks pin
held_still face mark marks pin other (inl (there, unreleased)) = inl (there, unreleased_by pin.number mark marks other unreleased)
held_still face mark marks pin other (inr (before, behind, is, unreleased)) = inr (mark ∷ before, behind, ap (λ l. mark ∷ l) is, unreleased)

held_made : (face : Face) (number limit : ℕ) (marks : List Mark) (pin : Limited) → IsHeldBehind (face_by face (Made number limit)).held marks pin → WasHeld face (Made number limit) marks pin
held_made face number limit marks pin (inr (before, behind, is, unreleased)) = inr (Made number limit ∷ before, behind, ap (λ l. Made number limit ∷ l) is, unreleased)
held_made face number limit marks pin (inl (there, unreleased)) =
    elim (All-contains (λ p. (p ≡ limited number limit) ⊎ Contains face.held p) (face_by face (Made number limit)).held pin
    (all_placed (λ p. (p ≡ limited number limit) ⊎ Contains face.held p) (λ (p : Limited). p.limit) (limited number limit) face.held (inl refl)
    (All-weaker (Contains face.held) (λ p. (p ≡ limited number limit) ⊎ Contains face.held p) (λ p has. inr has) face.held (All-contains_itself face.held))) there) [
      | inl same ↦ inr ([], marks, ap (λ (p : Limited). Made p.number p.limit ∷ marks) (sym same), unreleased)
      | inr has ↦ inl (has, unreleased_by pin.number (Made number limit) marks (λ is. cc) unreleased)
    ]

abbrev released_number : Mark → ℕ
released_number Round = 0
released_number (Certified place certificate) = 0
released_number (Made number limit) = 0
released_number (Released number) = number
released_number Spent = 0

held_released : (face : Face) (number : ℕ) (marks : List Mark) (pin : Limited) → IsHeldBehind (face_by face (Released number)).held marks pin → WasHeld face (Released number) marks pin
held_released face number marks pin (inr (before, behind, is, unreleased)) = inr (Released number ∷ before, behind, ap (λ l. Released number ∷ l) is, unreleased)
held_released face number marks pin (inl (there, unreleased)) =
    let other : Limited → Bool = λ p. not (p.number == number) in
    let passed = All-contains (λ p. other p ≡ true) (filter other face.held) pin (filter_passes other face.held) there in
    let was = All-contains (Contains face.held) (filter other face.held) pin (All-filter other (Contains face.held) face.held (All-contains_itself face.held)) there in
    let gone : number ≡ pin.number → ⊥ = λ is. let no : false ≡ true = ap not (sym (eq-eqb pin.number number (sym is))) ∙ passed in cc in
    inl (was, unreleased_by pin.number (Released number) marks (λ is. gone (ap (λ mark. released_number mark) is)) unreleased)

pub held_along : (face : Face) (marks : List Mark) → All (IsHeldBehind face.held marks) (face_along face marks).held
held_along face [] = All-weaker (Contains face.held) (IsHeldBehind face.held []) (λ pin has. inl (has, All-nil (λ mark. mark ≢ Released pin.number))) face.held (All-contains_itself face.held)
held_along face (Round ∷ marks) = All-weaker (IsHeldBehind face.held marks) (WasHeld face Round marks) (λ pin. held_still face Round marks pin (λ is. cc)) (face_along (face_by face Round) marks).held (held_along (face_by face Round) marks)
held_along face (Certified place certificate ∷ marks) = All-weaker (IsHeldBehind face.held marks) (WasHeld face (Certified place certificate) marks) (λ pin. held_still face (Certified place certificate) marks pin (λ is. cc)) (face_along face marks).held (held_along face marks)
held_along face (Spent ∷ marks) = All-weaker (IsHeldBehind face.held marks) (WasHeld face Spent marks) (λ pin. held_still face Spent marks pin (λ is. cc)) (face_along face marks).held (held_along face marks)
held_along face (Made number limit ∷ marks) =
    All-weaker (IsHeldBehind (face_by face (Made number limit)).held marks) (WasHeld face (Made number limit) marks) (held_made face number limit marks) (face_along (face_by face (Made number limit)) marks).held (held_along (face_by face (Made number limit)) marks)
held_along face (Released number ∷ marks) =
    All-weaker (IsHeldBehind (face_by face (Released number)).held marks) (WasHeld face (Released number) marks) (held_released face number marks) (face_along (face_by face (Released number)) marks).held (held_along (face_by face (Released number)) marks)
