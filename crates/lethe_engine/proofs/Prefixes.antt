-- Prefixes of what a crash may make of a history that goes on.
use Rattle.std.proofs.Common.{◌≡◌, inl, inr, ℕ, zero, suc, false, not, cond, [], ◌∷◌, ◌++◌, map, Some, None, refl, sym, ap, ◌∙◌, append_assoc, append-nil}
use Rattle.std.specs.Prelude.{filter}
use Rattle.lethe_base.specs.History.{History, Change, change_at, AreDone, IsLegal}
use Rattle.lethe_base.specs.declared.call.Call.{Call}
use Rattle.lethe_base.specs.declared.call.Call.TheVariants.{Put, Delete, Erase, Tick, Work}
use Rattle.lethe_base.specs.declared.call.Did.TheVariants.{Done}
use Rattle.lethe_stored.specs.Left.{IsOutcome, is_done, is_work, as_done, without_failed, with_failed_done}
use Rattle.lethe_engine.specs.StandsFor.{IsPrefixFrom}
use Rattle.lethe_core.proofs.Histories.{all_done, head_done, tail_done, without_none}

-- carried out, a change that is done is as it was
done_again : (change : Change) → change.did ≡ Done → as_done change ≡ change
done_again change is = λ i. record change { did = sym is i }

with_all_done : (h more : History) → ((place : ℕ) (change : Change) → change_at h place ≡ Some change → is_work change.call ≡ false) → AreDone h → with_failed_done (h ++ more) ≡ h ++ with_failed_done more
with_all_done [] more works done = refl
with_all_done (change ∷ h) more works done =
    let rest = with_all_done h more (later works) (tail_done change h done) in
    ap (λ t. map as_done (cond (not t) (change ∷ filter (λ (c : Change). not (is_work c.call)) (h ++ more)) (filter (λ (c : Change). not (is_work c.call)) (h ++ more)))) (works 1 change refl)
    ∙ (λ i. done_again change (head_done change h done) i ∷ rest i)
  where
    later : ((place : ℕ) (other : Change) → change_at (change ∷ h) place ≡ Some other → is_work other.call ≡ false) → (place : ℕ) (other : Change) → change_at h place ≡ Some other → is_work other.call ≡ false
    later works zero other is = let clash : None ≡ Some other = is in cc
    later works (suc place) other is = works (suc (suc place)) other is

no_work : (call : Call) → (call ≡ Work → ⊥) → is_work call ≡ false
no_work (Put key dkey value) none = refl
no_work (Delete key) none = refl
no_work (Erase range) none = refl
no_work (Tick to) none = refl
no_work Work none = absurd (none refl)

legal_works : (h : History) → IsLegal h → AreDone h → (place : ℕ) (change : Change) → change_at h place ≡ Some change → is_work change.call ≡ false
legal_works h legal done place change is = no_work change.call (λ work. legal.work place change is work (done place change is))

-- a crash makes nothing else of a history whose changes are done
outcome_done : (h outcome : History) → IsLegal h → AreDone h → IsOutcome h outcome → outcome ≡ h
outcome_done h outcome legal done (inl is) = is ∙ all_done h done
outcome_done h outcome legal done (inr is) = is ∙ ap with_failed_done (sym (append-nil h)) ∙ with_all_done h [] (legal_works h legal done) done ∙ append-nil h

module _ (opened : History) where
  -- a history whose changes are done is a prefix of itself
  pub prefix_itself : (h : History) → AreDone h → (added : History) × (h ≡ opened ++ added) → IsPrefixFrom opened h h
  prefix_itself h done begins = record { begins = begins; outcome = h; is = inl (sym (all_done h done)); front = ([], sym (append-nil h)) }

  -- and each of its prefixes is one of what it goes on to
  pub prefix_longer : (h more : History) → IsLegal h → AreDone h → (k : History) → IsPrefixFrom opened h k → IsPrefixFrom opened (h ++ more) k
  prefix_longer h more legal done k of =
      let same = outcome_done h of.outcome legal done of.is in
      record {
        begins = of.begins;
        outcome = without_failed (h ++ more);
        is = inl refl;
        front = (of.front.0 ++ without_failed more, without_none h more done ∙ ap (λ l. l ++ without_failed more) (sym same ∙ of.front.1) ∙ append_assoc k of.front.0 (without_failed more));
      }

  -- with the change that is done
  pub prefix_done : (h : History) (change : Change) → AreDone h → change.did ≡ Done → (added : History) × (h ≡ opened ++ added) → IsPrefixFrom opened (h ++ change ∷ []) (h ++ change ∷ [])
  prefix_done h change done is begins = record {
    begins = (begins.0 ++ change ∷ [], ap (λ l. l ++ change ∷ []) begins.1 ∙ append_assoc opened begins.0 (change ∷ []));
    outcome = without_failed (h ++ change ∷ []);
    is = inl refl;
    front = ([], without_none h (change ∷ []) done ∙ ap (λ d. h ++ cond (is_done d) (change ∷ []) []) is ∙ sym (append-nil (h ++ change ∷ [])));
  }

  -- and with the one that failed, carried out
  pub prefix_failed : (h : History) (change : Change) → IsLegal h → AreDone h → (change.call ≡ Work → ⊥) → (added : History) × (h ≡ opened ++ added) → IsPrefixFrom opened (h ++ change ∷ []) (h ++ as_done change ∷ [])
  prefix_failed h change legal done works begins = record {
    begins = (begins.0 ++ as_done change ∷ [], ap (λ l. l ++ as_done change ∷ []) begins.1 ∙ append_assoc opened begins.0 (as_done change ∷ []));
    outcome = with_failed_done (h ++ change ∷ []);
    is = inr refl;
    front = (
      [],
      with_all_done h (change ∷ []) (legal_works h legal done) done
          ∙ ap (λ t. h ++ map as_done (cond (not t) (change ∷ []) [])) (no_work change.call works) ∙ sym (append-nil (h ++ as_done change ∷ [])),
    );
  }

  -- what is shorter than a prefix, and not than the opened history, is one too
  pub prefix_shorter : (h k front rest : History) → IsPrefixFrom opened h k → k ≡ front ++ rest → (added : History) × (front ≡ opened ++ added) → IsPrefixFrom opened h front
  prefix_shorter h k front rest of is begins = record {
    begins = begins;
    outcome = of.outcome;
    is = of.is;
    front = (rest ++ of.front.0, of.front.1 ∙ ap (λ l. l ++ of.front.0) is ∙ append_assoc front rest of.front.0);
  }
