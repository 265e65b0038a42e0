-- Histories of which the last change may have failed.
use Rattle.std.proofs.Common.{◌≡◌, ◌<◌, ◌≤◌, inl, inr, ℕ, zero, suc, cond, [], ◌∷◌, ◌++◌, length, Some, None, refl, sym, ap, ◌∙◌, subst, append-nil, length-append, arith}
use Rattle.std.specs.Prelude.{fold}
use Rattle.lethe_base.specs.History.{History, Change, State, changed, outcome, after, AreDone, IsLegal}
use Rattle.lethe_base.specs.Limits.{max_place}
use Rattle.lethe_base.specs.declared.call.Did.{Did}
use Rattle.lethe_base.specs.declared.call.Did.TheVariants.{Done, Failed}
use Rattle.lethe_base.proofs.Histories.{change_at_cases, clock_before-append}
use Rattle.lethe_stored.specs.Left.{is_done, without_failed}

-- what failed changes nothing
one_more : (s : State) (change : Change) (h : History) (did : Did) → change.did ≡ did → ((st : State) → fold changed st (without_failed h) ≡ fold changed st h)
    → fold changed s (cond (is_done change.did) (change ∷ without_failed h) (without_failed h)) ≡ fold changed (changed s change) h
one_more s change h Done is rest = ap (λ d. fold changed s (cond (is_done d) (change ∷ without_failed h) (without_failed h))) is ∙ rest (changed s change)
one_more s change h (Failed before behind) is rest = ap (λ d. fold changed s (cond (is_done d) (change ∷ without_failed h) (without_failed h))) is ∙ rest s
    ∙ ap (λ st. fold changed st h) (sym (ap (λ d. outcome d change.call s) is))

after_from : (s : State) (h : History) → fold changed s (without_failed h) ≡ fold changed s h
after_from s [] = refl
after_from s (change ∷ h) = one_more s change h change.did refl (λ st. after_from st h)

pub after_without : (h : History) → after (without_failed h) ≡ after h
after_without h = after_from _ h

pub tail_done : (change : Change) (h : History) → AreDone (change ∷ h) → AreDone h
tail_done change h done zero other is = let clash : None ≡ Some other = is in cc
tail_done change h done (suc place) other is = done (suc (suc place)) other is

pub head_done : (change : Change) (h : History) → AreDone (change ∷ h) → change.did ≡ Done
head_done change h done = done 1 change refl

pub without_none : (h more : History) → AreDone h → without_failed (h ++ more) ≡ h ++ without_failed more
without_none [] more done = refl
without_none (change ∷ h) more done =
    let rest = without_none h more (tail_done change h done) in
    ap (λ t. cond t (change ∷ without_failed (h ++ more)) (without_failed (h ++ more))) (ap is_done (head_done change h done)) ∙ ap (λ l. change ∷ l) rest

-- nothing has failed
pub all_done : (h : History) → AreDone h → without_failed h ≡ h
all_done h done = ap without_failed (sym (append-nil h)) ∙ without_none h [] done ∙ append-nil h

-- the last change alone has failed
pub last_failed : (h : History) (change : Change) (before behind : ℕ) → AreDone h → change.did ≡ Failed before behind → without_failed (h ++ change ∷ []) ≡ h
last_failed h change before behind done failed = without_none h (change ∷ []) done ∙ ap (λ d. h ++ cond (is_done d) (change ∷ []) []) failed ∙ append-nil h

undone : (new change : Change) (before behind : ℕ) → change ≡ new → new.did ≡ Failed before behind → change.did ≡ Done → ⊥
undone new change before behind same failed done = let clash : Failed before behind ≡ Done = sym failed ∙ sym (ap (λ (c : Change). c.did) same) ∙ done in cc

-- a change or work that failed may follow done ones
pub legal_failed : (h : History) (new : Change) (before behind : ℕ) → IsLegal h → AreDone h → length h < max_place → new.did ≡ Failed before behind → IsLegal (h ++ new ∷ [])
legal_failed h new before behind legal done few failed = record {
  few = omega (arith, length-append h (new ∷ []));
  lasts = λ place change e early. elim (change_at_cases h new change place e) [
    | inl old ↦ done place change old.1
    | inr last ↦ absurd (let is : place ≡ suc (length h) = last.0 in omega (arith, length-append h (new ∷ [])))
  ];
  work = λ place change e is did. elim (change_at_cases h new change place e) [
    | inl old ↦ legal.work place change old.1 is did
    | inr last ↦ undone new change before behind last.1 failed did
  ];
  forward = λ place to change e is did. elim (change_at_cases h new change place e) [
    | inl old ↦ let within : place ≤ length h = old.0 in
        subst (λ clock. clock ≤ to) (sym (clock_before-append h (new ∷ []) place (omega arith))) (legal.forward place to change old.1 is did)
    | inr last ↦ absurd (undone new change before behind last.1 failed did)
  ];
}
