-- What holds of a history, with one change more.
use Rattle.std.proofs.Common.{◌≡◌, ◌⊎◌, inl, inr, ℕ, zero, suc, ◌<◌, ◌≤◌, IsTrue, [], ◌∷◌, ◌++◌, length, Option, Some, IsSomeAnd, option_and_then, refl, sym, ap, ◌∙◌, subst, arith}
use Rattle.lethe_cover.proofs.Common.{length_push, cases_lt, Bytes, History, Change, change_at, after, clock_before, done_call, done_at, is_eraser, cause_of, IsErasedAt, IsCause, IsPlaced, IsAccepted, IsFresh, Call, Put, Delete, Erase, Body, Pending, cause_is_first, first_is_cause, change_at-push, clock_before-append, clock_before-end}
use Rattle.std.proofs.lemmas.Option.{slice_get-get_or, slice_get_within}
use Rattle.std.proofs.lemmas.List.{get_or_append_left}
use Rattle.lethe_base.specs.declared.entry.Body.TheVariants as body

change_within : (h : History) (place : ℕ) (change : Change) → change_at h place ≡ Some change → place ≤ length h
change_within h zero change is = omega arith
change_within h (suc before) change is = let within = slice_get_within h before change is in omega arith

pub done_within : (h : History) (place : ℕ) (call : Call) → done_at h place ≡ Some call → place ≤ length h
done_within h place call is = grind (arith, change_within h place)

-- what is placed has a place of the history
pub placed_within : (h : History) (seq : ℕ) (key : Bytes) (b : Body) → IsPlaced h seq key b → seq ≤ length h
placed_within h seq key (body.Put dkey value) is = done_within h seq (Put key dkey value) is
placed_within h seq key body.Tomb (inl deleted) = done_within h seq (Delete key) deleted
placed_within h seq key body.Tomb (inr put) = done_within h seq (Put key put.dkey put.value) put.put

module _ (h : History) (change : Change) where
  change_old : (place : ℕ) → place ≤ length h → change_at (h ++ change ∷ []) place ≡ change_at h place
  change_old zero within = refl
  change_old (suc before) within =
      slice_get-get_or (h ++ change ∷ []) before change (omega (arith, length_push h change)) ∙ ap Some (get_or_append_left h (change ∷ []) change before (omega arith))
      ∙ sym (slice_get-get_or h before change (omega arith))

  pub done_old : (place : ℕ) → place ≤ length h → done_at (h ++ change ∷ []) place ≡ done_at h place
  done_old place within = ap (option_and_then (λ change. done_call change.did change.call)) (change_old place within)

  pub done_more : (place : ℕ) (call : Call) → done_at h place ≡ Some call → done_at (h ++ change ∷ []) place ≡ Some call
  done_more place call is = done_old place (done_within h place call is) ∙ is

  pub clock_old : (place : ℕ) → place ≤ suc (length h) → clock_before (h ++ change ∷ []) place ≡ clock_before h place
  clock_old place within = clock_before-append h (change ∷ []) place (omega arith)

  pub clock_next : (place : ℕ) → place ≡ suc (length h) → clock_before (h ++ change ∷ []) place ≡ (after h).clock
  clock_next place is = ap (clock_before (h ++ change ∷ [])) is ∙ clock_old (suc (length h)) (omega arith) ∙ clock_before-end h

  pub placed_more : (seq : ℕ) (key : Bytes) (b : Body) → IsPlaced h seq key b → IsPlaced (h ++ change ∷ []) seq key b
  placed_more seq key (body.Put dkey value) is = done_more seq (Put key dkey value) is
  placed_more seq key body.Tomb (inl deleted) = inl (done_more seq (Delete key) deleted)
  placed_more seq key body.Tomb (inr is) =
      let put = done_more seq (Put key is.dkey is.value) is.put in
      let erase = done_more is.place (Erase is.range) is.erase in
      inr (record { dkey = is.dkey; value = is.value; put = put; place = is.place; range = is.range; erase = erase; later = is.later; matched = is.matched })

  pub accepted_more : (erase : Pending) → IsAccepted h erase → IsAccepted (h ++ change ∷ []) erase
  accepted_more erase is =
      let within = done_within h erase.seq (Erase erase.range) is.done in
      record { done = done_more erase.seq (Erase erase.range) is.done; timed = is.timed ∙ sym (clock_old erase.seq (omega arith)) }

  pub fresh_more : (threshold clock time : ℕ) → IsFresh threshold h clock time → IsFresh threshold (h ++ change ∷ []) clock time
  fresh_more threshold clock time is =
      let within = done_within h is.place is.call is.done in
      record { place = is.place; call = is.call; done = done_more is.place is.call is.done; erasure = is.erasure; timed = is.timed ∙ sym (clock_old is.place (omega arith)); fresh = is.fresh }

  erased_within : (key : Bytes) (dkey place : ℕ) → IsErasedAt (h ++ change ∷ []) key dkey place → place ≤ suc (length h)
  erased_within key dkey place is = grind (arith, length_push h change, change_within (h ++ change ∷ []) place)

  abbrev IsEraser : Bytes → ℕ → Option Change → Type 0
  IsEraser key dkey o = IsSomeAnd o (λ c. IsTrue (is_eraser key dkey c))

  -- the change is the first that erases what was put at the place
  pub record EndsNow (place cause : ℕ) : Type 0 where
    pub at : cause ≡ suc (length h)
    pub key : Bytes
    pub dkey : ℕ
    pub value : Bytes
    pub put : done_at h place ≡ Some (Put key dkey value)
    pub erases : IsTrue (is_eraser key dkey change)

  -- the cause of what was put before is the one that it had, or the change
  pub cause_more : (place cause : ℕ) → place ≤ length h → cause_of (h ++ change ∷ []) place ≡ Some cause
      → ((cause_of h place ≡ Some cause) × (cause ≤ length h)) ⊎ EndsNow place cause
  cause_more place cause within is = elim (cases_lt (length h) cause) [
    | inr old ↦
        let put = sym (done_old place within) ∙ first.put in
        let erases = subst (IsEraser first.key first.dkey) (change_old cause old) first.erases in
        let none = λ (between : ℕ) (behind : place < between) (before : between < cause) (is : IsErasedAt h first.key first.dkey between).
        first.first between behind before (subst (IsEraser first.key first.dkey) (sym (change_old between (omega arith))) is) in
        inl (first_is_cause h place cause (record { key = first.key; dkey = first.dkey; value = first.value; put = put; later = first.later; erases = erases; first = none }), old)
    | inl new ↦
        let last = erased_within first.key first.dkey cause first.erases in
        let at : cause ≡ suc (length h) = omega arith in
        let erases = subst (IsEraser first.key first.dkey) (ap (change_at (h ++ change ∷ [])) at ∙ change_at-push h change) first.erases in
        inr (record { at = at; key = first.key; dkey = first.dkey; value = first.value; put = sym (done_old place within) ∙ first.put; erases = erases })
  ]
    where
      first : IsCause (h ++ change ∷ []) place cause
      first = cause_is_first (h ++ change ∷ []) place cause is

  -- what the change put has no cause yet
  pub none_behind : (place cause : ℕ) → length h < place → cause_of (h ++ change ∷ []) place ≡ Some cause → ⊥
  none_behind place cause last is =
      let first = cause_is_first (h ++ change ∷ []) place cause is in omega (arith, erased_within first.key first.dkey cause first.erases, first.later)
