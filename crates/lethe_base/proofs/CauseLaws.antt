-- The cause of an erasure is the first change behind the put that erases it.
use Rattle.std.proofs.Common.{◌≡◌, ◌⊎◌, inl, inr, ℕ, zero, suc, ◌+◌, ◌-◌, ◌<◌, ◌≤◌, List, Bool, true, false, IsTrue, drop, length, get_or, position, Option, Some, None, option_map, option_and_then, IsSomeAnd, slice_get, refl, sym, ap, ◌∙◌, subst, arith, length-drop}
use Rattle.std.proofs.lemmas.Grind.{common_steps}
use Rattle.std.proofs.lemmas.List.{get_or-drop}
use Rattle.std.proofs.lemmas.List.Quantifiers.{position-Some}
use Rattle.std.proofs.lemmas.List.Sums.{position_or_len_is, fails_before_first}
use Rattle.std.proofs.lemmas.Bool.{cases_lt}
use Rattle.std.proofs.lemmas.Option.{slice_get-get_or, slice_get_within}
use Rattle.std.specs.List.{position_or_len}
use Rattle.lethe_base.specs.Keys.{Bytes}
use Rattle.lethe_base.specs.History.{History, Change, change_at}
use Rattle.lethe_base.specs.Causes.{done_call, done_at, erases, erases_if, is_eraser, cause_behind, cause_of, IsErasedAt, IsCause}
use Rattle.lethe_base.specs.declared.call.Call.{Call}
use Rattle.lethe_base.specs.declared.call.Call.TheVariants.{Put, Delete, Erase, Tick, Work}
use Rattle.lethe_base.specs.declared.call.Did.{Did}
use Rattle.lethe_base.specs.declared.call.Did.TheVariants.{Done, Failed}

-- stands for what isn't there
spare : Change
spare = record { caller = 0; call = Work; did = Done }

-- places behind another are counted from it
at_behind : (h : History) (place n : ℕ) → n < length (drop place h) → change_at h (place + n + 1) ≡ Some (get_or (drop place h) n spare)
at_behind h place n within =
    let next : place + n + 1 ≡ suc (place + n) = omega arith in
    rw next (slice_get-get_or h (place + n) spare (omega (arith, length-drop place h)) ∙ ap Some (sym (get_or-drop place h n spare)))

-- what erases behind a place, as a test
eraser_at : (h : History) (place n : ℕ) (key : Bytes) (dkey : ℕ) → n < length (drop place h) → IsErasedAt h key dkey (place + n + 1)
    → is_eraser key dkey (get_or (drop place h) n spare) ≡ true
eraser_at h place n key dkey within is =
    subst (λ o. IsSomeAnd o (λ change. IsTrue (is_eraser key dkey change))) (at_behind h place n within) is

erased_at : (h : History) (place n : ℕ) (key : Bytes) (dkey : ℕ) → n < length (drop place h) → is_eraser key dkey (get_or (drop place h) n spare) ≡ true
    → IsErasedAt h key dkey (place + n + 1)
erased_at h place n key dkey within is =
    subst (λ o. IsSomeAnd o (λ change. IsTrue (is_eraser key dkey change))) (sym (at_behind h place n within)) is

cause_found : (h : History) (place cause : ℕ) (key : Bytes) (dkey : ℕ) (value : Bytes) → done_at h place ≡ Some (Put key dkey value)
    → (o : Option ℕ) → position (is_eraser key dkey) (drop place h) ≡ o → option_map (λ between. place + between + 1) o ≡ Some cause → IsCause h place cause
cause_found h place cause key dkey value put None at is = absurd (let clash : None ≡ Some cause = is in cc)
cause_found h place cause key dkey value put (Some n) at is =
    let found = position-Some (is_eraser key dkey) (drop place h) n spare at in
    let within : n < length (drop place h) = found.0 in
    let same : Some (place + n + 1) ≡ Some cause = is in
    let there : place + n + 1 ≡ cause = cc in
    record {
      key = key;
      dkey = dkey;
      value = value;
      put = put;
      later = omega arith;
      erases = subst (IsErasedAt h key dkey) there (erased_at h place n key dkey within found.1);
      first = λ between behind before erases.
          let back : between ≡ place + (between - place - 1) + 1 = omega arith in
          let hit = eraser_at h place (between - place - 1) key dkey (omega arith) (subst (IsErasedAt h key dkey) back erases) in
          let missed = found.2 (between - place - 1) (omega arith) in
          absurd (let clash : true ≡ false = sym hit ∙ missed in cc);
    }

pub cause_is_first : (h : History) (place cause : ℕ) → cause_of h place ≡ Some cause → IsCause h place cause
cause_is_first h place cause is = by (done_at h place) refl is
  where
    by : (o : Option Call) → done_at h place ≡ o → option_and_then (cause_behind h place) o ≡ Some cause → IsCause h place cause
    by None at is = absurd (let clash : None ≡ Some cause = is in cc)
    by (Some (Put key dkey value)) at is = cause_found h place cause key dkey value at (position (is_eraser key dkey) (drop place h)) refl is
    by (Some (Delete key)) at is = absurd (let clash : None ≡ Some cause = is in cc)
    by (Some (Erase range)) at is = absurd (let clash : None ≡ Some cause = is in cc)
    by (Some (Tick to)) at is = absurd (let clash : None ≡ Some cause = is in cc)
    by (Some Work) at is = absurd (let clash : None ≡ Some cause = is in cc)

-- a place where something erases is one of the history
erased_within : (h : History) (key : Bytes) (dkey place : ℕ) → IsErasedAt h key dkey place → place ≤ length h
erased_within h key dkey zero is = omega arith
erased_within h key dkey (suc before) is = by (slice_get h before) refl is
  where
    by : (o : Option Change) → slice_get h before ≡ o → IsSomeAnd o (λ change. IsTrue (is_eraser key dkey change)) → suc before ≤ length h
    by None at is = absurd is
    by (Some change) at is = let within : before < length h = slice_get_within h before change at in omega arith

position_is : (p : Change → Bool) (xs : List Change) (n : ℕ) → n < length xs → ((k : ℕ) → k < n → p (get_or xs k spare) ≡ false)
    → p (get_or xs n spare) ≡ true → position p xs ≡ Some n
position_is p xs n within fails passes =
    let at : position_or_len p xs ≡ n = position_or_len_is p xs n spare (omega arith) fails (λ _. passes) in
    rw at (grind (arith, common_steps))

cause_at : (h : History) (place n : ℕ) (key : Bytes) (dkey : ℕ) (value : Bytes) → done_at h place ≡ Some (Put key dkey value)
    → IsErasedAt h key dkey (place + n + 1) → ((k : ℕ) → k < n → IsErasedAt h key dkey (place + k + 1) → ⊥) → cause_of h place ≡ Some (place + n + 1)
cause_at h place n key dkey value put erases first =
    let inside : place + n + 1 ≤ length h = erased_within h key dkey (place + n + 1) erases in
    let within : n < length (drop place h) = omega (arith, length-drop place h) in
    let at = position_is (is_eraser key dkey) (drop place h) n within
    (λ k lt. missed k lt (omega arith) (is_eraser key dkey (get_or (drop place h) k spare)) refl)
    (eraser_at h place n key dkey within erases) in
    ap (option_and_then (cause_behind h place)) put ∙ ap (option_map (λ between. place + between + 1)) at
  where
    missed : (k : ℕ) → k < n → k < length (drop place h) → (b : Bool) → is_eraser key dkey (get_or (drop place h) k spare) ≡ b
        → is_eraser key dkey (get_or (drop place h) k spare) ≡ false
    missed k lt within true at = absurd (first k lt (erased_at h place k key dkey within at))
    missed k lt within false at = at

pub first_is_cause : (h : History) (place cause : ℕ) → IsCause h place cause → cause_of h place ≡ Some cause
first_is_cause h place cause c =
    let later : place < cause = c.later in
    let there : place + (cause - place - 1) + 1 ≡ cause = omega arith in
    subst (λ p. cause_of h place ≡ Some p) there (cause_at h place (cause - place - 1) c.key c.dkey c.value c.put
    (subst (IsErasedAt h c.key c.dkey) (sym there) c.erases) (λ k lt is. c.first (place + k + 1) (omega arith) (omega arith) is))

-- what is erased at a later place has a cause, at that place or before it
pub cause_by : (h : History) (place n : ℕ) (key : Bytes) (dkey : ℕ) (value : Bytes) → done_at h place ≡ Some (Put key dkey value)
    → IsErasedAt h key dkey (place + n + 1) → (cause : ℕ) × (cause_of h place ≡ Some cause) × (cause ≤ place + n + 1)
cause_by h place n key dkey value put erases =
    let inside : place + n + 1 ≤ length h = erased_within h key dkey (place + n + 1) erases in
    let within : n < length (drop place h) = omega (arith, length-drop place h) in
    let first : position_or_len (is_eraser key dkey) (drop place h) ≤ n = not_past (eraser_at h place n key dkey within erases) (cases_lt n (position_or_len (is_eraser key dkey) (drop place h))) in
    let found : position (is_eraser key dkey) (drop place h) ≡ Some (position_or_len (is_eraser key dkey) (drop place h)) = grind (arith, common_steps) in (
      place + position_or_len (is_eraser key dkey) (drop place h) + 1,
      ap (option_and_then (cause_behind h place)) put ∙ ap (option_map (λ between. place + between + 1)) found,
      omega arith,
    )
  where
    not_past : is_eraser key dkey (get_or (drop place h) n spare) ≡ true → (n < position_or_len (is_eraser key dkey) (drop place h)) ⊎ (position_or_len (is_eraser key dkey) (drop place h) ≤ n)
        → position_or_len (is_eraser key dkey) (drop place h) ≤ n
    not_past hit cases = elim cases [
      | inl before ↦ absurd (let clash : true ≡ false = sym hit ∙ fails_before_first (is_eraser key dkey) (drop place h) n spare before in cc)
      | inr behind ↦ behind
    ]

-- a done call that erases the pair erases it at its place
pub erased_by : (h : History) (place : ℕ) (call : Call) (key : Bytes) (dkey : ℕ) → done_at h place ≡ Some call → erases key dkey call ≡ true → IsErasedAt h key dkey place
erased_by h place call key dkey is hit = by (change_at h place) is
  where
    of_did : (did : Did) (made : Call) → done_call did made ≡ Some call → IsTrue (erases_if key dkey did made)
    of_did Done made is = let same : made ≡ call = cc in subst (λ c. erases key dkey c ≡ true) (sym same) hit
    of_did (Failed before after) made is = absurd (let clash : None ≡ Some call = is in cc)

    by : (o : Option Change) → option_and_then (λ change. done_call change.did change.call) o ≡ Some call → IsSomeAnd o (λ change. IsTrue (is_eraser key dkey change))
    by None is = absurd (let clash : None ≡ Some call = is in cc)
    by (Some change) is = of_did change.did change.call is
