-- Histories that grow.
use Rattle.std.proofs.Common.{◌≡◌, ℕ, zero, suc, ◌-◌, ◌<◌, ◌≤◌, ◌⊎◌, inl, inr, [], ◌∷◌, ◌++◌, length, Some, None, slice_get, refl, sym, ap, ◌∙◌, subst, arith}
use Rattle.std.proofs.lemmas.List.{length-append, take-append-le, take_all}
use Rattle.std.proofs.lemmas.List.Sums.{fold-append}
use Rattle.lethe_base.specs.declared.call.Call.TheVariants.{Tick, Work}
use Rattle.lethe_base.specs.declared.call.Did.TheVariants.{Done}
use Rattle.lethe_base.specs.Limits.{max_place}
use Rattle.lethe_base.specs.History.{History, Change, change_at, after, changed, nothing, clock_before, IsLegal, AreDone}

-- one change more
pub after-push : (h : History) (change : Change) → after (h ++ change ∷ []) ≡ changed (after h) change
after-push h change = fold-append changed nothing h (change ∷ [])

-- what stands in a history stands there when more follows
get_before : (h more : History) (i : ℕ) (change : Change) → slice_get h i ≡ Some change → slice_get (h ++ more) i ≡ Some change
get_before [] more i change e = absurd (let clash : None ≡ Some change = e in cc)
get_before (x ∷ h) more zero change e = e
get_before (x ∷ h) more (suc i) change e = get_before h more i change e

pub change_at-append : (h more : History) (place : ℕ) (change : Change) → change_at h place ≡ Some change → change_at (h ++ more) place ≡ Some change
change_at-append h more zero change e = e
change_at-append h more (suc before) change e = get_before h more before change e

-- the change behind a history
get_end : (h : History) (change : Change) → slice_get (h ++ change ∷ []) (length h) ≡ Some change
get_end [] change = refl
get_end (x ∷ h) change = get_end h change

pub change_at-push : (h : History) (change : Change) → change_at (h ++ change ∷ []) (suc (length h)) ≡ Some change
change_at-push h change = get_end h change

-- what stands in a history with one change more stood there before, or is that change
abbrev IsOldOrNew : History → Change → ℕ → Change → Type 0
IsOldOrNew h new i change = ((i < length h) × (slice_get h i ≡ Some change)) ⊎ ((i ≡ length h) × (change ≡ new))

get_push : (h : History) (new change : Change) (i : ℕ) → slice_get (h ++ new ∷ []) i ≡ Some change → IsOldOrNew h new i change
get_push [] new change zero e = let same : change ≡ new = cc in inr (refl, same)
get_push [] new change (suc i) e = absurd (let clash : None ≡ Some change = e in cc)
get_push (x ∷ h) new change zero e = inl (omega arith, e)
get_push (x ∷ h) new change (suc i) e = elim (get_push h new change i e) [
  | inl old ↦ inl (let lt : i < length h = old.0 in omega arith, old.1)
  | inr last ↦ inr (ap suc last.0, last.1)
]

pub change_at_cases : (h : History) (new change : Change) (place : ℕ) → change_at (h ++ new ∷ []) place ≡ Some change
    → ((place ≤ length h) × (change_at h place ≡ Some change)) ⊎ ((place ≡ suc (length h)) × (change ≡ new))
change_at_cases h new change zero e = absurd (let clash : None ≡ Some change = e in cc)
change_at_cases h new change (suc before) e = elim (get_push h new change before e) [
  | inl old ↦ inl (let lt : before < length h = old.0 in omega arith, old.1)
  | inr last ↦ inr (ap suc last.0, last.1)
]

-- the clock before a place doesn't depend on what stands there or behind it
pub clock_before-append : (h more : History) (place : ℕ) → place - 1 ≤ length h → clock_before (h ++ more) place ≡ clock_before h place
clock_before-append h more place within = ap (λ l. (after l).clock) (take-append-le (place - 1) h more within)

pub clock_before-end : (h : History) → clock_before h (suc (length h)) ≡ (after h).clock
clock_before-end h = ap (λ l. (after l).clock) (take_all (suc (length h) - 1) h (omega arith))

-- a done change that isn't work and doesn't turn the clock back may follow done ones
pub done_push : (h : History) (new : Change) → AreDone h → new.did ≡ Done → AreDone (h ++ new ∷ [])
done_push h new done is place change e = elim (change_at_cases h new change place e) [
  | inl old ↦ done place change old.1
  | inr last ↦ ap (λ c. c.did) last.1 ∙ is
]

pub legal_push : (h : History) (new : Change) → IsLegal h → AreDone h → length h < max_place → (new.call ≡ Work → ⊥)
    → ((to : ℕ) → new.call ≡ Tick to → (after h).clock ≤ to) → IsLegal (h ++ new ∷ [])
legal_push h new legal done few works forward = record {
  few = omega (arith, length-append h (new ∷ []));
  lasts = λ place change e before. elim (change_at_cases h new change place e) [
    | inl old ↦ done place change old.1
    | inr last ↦ absurd (let is : place ≡ suc (length h) = last.0 in omega (arith, length-append h (new ∷ [])))
  ];
  work = λ place change e is did. elim (change_at_cases h new change place e) [
    | inl old ↦ legal.work place change old.1 is did
    | inr last ↦ works (sym (ap (λ c. c.call) last.1) ∙ is)
  ];
  forward = λ place to change e is did. elim (change_at_cases h new change place e) [
    | inl old ↦ let within : place ≤ length h = old.0 in
        subst (λ clock. clock ≤ to) (sym (clock_before-append h (new ∷ []) place (omega arith))) (legal.forward place to change old.1 is did)
    | inr last ↦ let is_end : place ≡ suc (length h) = last.0 in
        let clock : clock_before (h ++ new ∷ []) place ≡ (after h).clock =
        clock_before-append h (new ∷ []) place (omega arith) ∙ ap (clock_before h) is_end ∙ clock_before-end h in
        subst (λ clock. clock ≤ to) (sym clock) (forward to (sym (ap (λ c. c.call) last.1) ∙ is))
  ];
}

-- the history without any change is legal, and none in it has failed
pub legal_empty : IsLegal []
legal_empty = record {
  few = omega arith;
  lasts = λ place change e before. absurd (omega arith);
  work = λ place change e is did. absurd (none place change e);
  forward = λ place to change e is did. absurd (none place change e);
}
  where
    none : (place : ℕ) (change : Change) → change_at [] place ≡ Some change → ⊥
    none zero change e = absurd (let clash : None ≡ Some change = e in cc)
    none (suc before) change e = absurd (let clash : None ≡ Some change = e in cc)

pub done_empty : AreDone []
done_empty zero change e = absurd (let clash : None ≡ Some change = e in cc)
done_empty (suc before) change e = absurd (let clash : None ≡ Some change = e in cc)
