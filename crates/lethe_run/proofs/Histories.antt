-- Histories of which the last change may have failed.
use Rattle.std.proofs.Common.{◌≡◌, ◌⊎◌, inl, inr, ℕ, not, cond, List, [], ◌∷◌, ◌++◌, Some, None, refl, sym, ap, ◌∙◌, append-nil}
use Rattle.std.specs.Prelude.{filter, slice_get}
use Rattle.lethe_base.specs.History.{History, Change, AreDone}
use Rattle.lethe_base.specs.declared.call.Did.TheVariants.{Failed}
use Rattle.lethe_stored.specs.Left.{is_done}
use Rattle.lethe_core.proofs.Histories.{head_done, tail_done}
use Rattle.lethe_run.specs.Carried.{failed_in}

failed_none : (h more : History) → AreDone h → failed_in (h ++ more) ≡ failed_in more
failed_none [] more done = refl
failed_none (change ∷ h) more done =
    ap (λ t. slice_get (cond (not t) (change ∷ filter (λ (c : Change). not (is_done c.did)) (h ++ more)) (filter (λ (c : Change). not (is_done c.did)) (h ++ more))) 0) (ap is_done (head_done change h done))
    ∙ failed_none h more (tail_done change h done)

pub none_failed : (h : History) → AreDone h → failed_in h ≡ None
none_failed h done = ap failed_in (sym (append-nil h)) ∙ failed_none h [] done

-- the last change alone has failed
pub one_failed : (h : History) (change : Change) (before after : ℕ) → AreDone h → change.did ≡ Failed before after → failed_in (h ++ change ∷ []) ≡ Some change
one_failed h change before after done failed = failed_none h (change ∷ []) done ∙ ap (λ d. slice_get (cond (not (is_done d)) (change ∷ []) []) 0) failed

-- the last of some, or none
pub split_last : {X : Type 0} (xs : List X) → (xs ≡ []) ⊎ ((front : List X) × (last : X) × (xs ≡ front ++ last ∷ []))
split_last [] = inl refl
split_last (x ∷ xs) = elim (split_last xs) [
  | inl none ↦ inr ([], x, ap (λ l. x ∷ l) none)
  | inr more ↦ inr (x ∷ more.0, more.1, ap (λ l. x ∷ l) more.2)
]

abbrev tail_of : {X : Type 0} → List X → List X
tail_of [] = []
tail_of (x ∷ xs) = xs

some_none : {X : Type 0} (xs : List X) (y : X) → xs ++ y ∷ [] ≡ [] → ⊥
some_none [] y e = cc
some_none (x ∷ xs) y e = cc

pub same_last : {X : Type 0} (a b : List X) (x y : X) → a ++ x ∷ [] ≡ b ++ y ∷ [] → (a ≡ b) × (x ≡ y)
same_last [] [] x y e = (refl, cc)
same_last [] (b ∷ bs) x y e = absurd (some_none bs y (sym (ap tail_of e)))
same_last (a ∷ rest) [] x y e = absurd (some_none rest x (ap tail_of e))
same_last (a ∷ rest) (b ∷ bs) x y e =
    let heads : a ≡ b = cc in
    let tails : rest ++ x ∷ [] ≡ bs ++ y ∷ [] = cc in
    let more = same_last rest bs x y tails in
    (λ i. heads i ∷ more.0 i, more.1)
