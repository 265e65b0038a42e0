-- The place of a tick, by its certificate: the history up to it has as many certificates as the whole one.
use Rattle.std.proofs.Common.{◌≡◌, ◌≤◌, inl, inr, ℕ, ◌+◌, cond, List, [], ◌∷◌, ◌++◌, length, sym, ap, ◌∙◌, arith, append-nil}
use Rattle.std.specs.Prelude.{◌⊎◌}
use Rattle.std.proofs.lemmas.Bool.{le-leb}
use Rattle.std.proofs.lemmas.List.{length-append}
use Rattle.std.proofs.lemmas.List.Sums.{sum_by-append}
use Rattle.lethe_base.specs.History.{Change, History}
use Rattle.lethe_base.specs.declared.call.Call.TheVariants.{Tick}
use Rattle.lethe_base.specs.declared.call.Did.TheVariants.{Done}
use Rattle.lethe_base.specs.declared.config.Fields.{Fields}
use Rattle.lethe_cert.specs.declared.certificate.Certificate.{Certificate}
use Rattle.lethe_core.specs.View.{View}
use Rattle.lethe_cover.specs.Steps.{with_done}
use Rattle.lethe_engine.specs.StandsFor.{IsCertified, Opened}
use Rattle.lethe_stored.specs.Kept.{certificates, certifies}
use Rattle.lethe_store.specs.Diary.{IsCertifiedAt}

abbrev tick_of : ℕ → ℕ → Change
tick_of caller to = record { caller = caller; call = Tick to; did = Done }

module _ {X : Type 0} (x : X) where
  -- what is behind a front is nothing, or ends with the last
  ends_with : (h front added : List X) → h ++ x ∷ [] ≡ front ++ added → (added ≡ []) ⊎ ((init : List X) × (added ≡ init ++ x ∷ []))
  ends_with h [] added is = inr (h, sym is)
  ends_with [] (first ∷ front) added is = none front added (ap rest_of is)
    where
      rest_of : List X → List X
      rest_of [] = []
      rest_of (y ∷ ys) = ys

      none : (front added : List X) → [] ≡ front ++ added → (added ≡ []) ⊎ ((init : List X) × (added ≡ init ++ x ∷ []))
      none [] added is = inl (sym is)
      none (y ∷ front) added is = cc
  ends_with (y ∷ h) (first ∷ front) added is = ends_with h front added (ap rest_of is)
    where
      rest_of : List X → List X
      rest_of [] = []
      rest_of (y ∷ ys) = ys

module _ (threshold : ℕ) where
  abbrev counted : Change → ℕ
  counted change = cond (certifies threshold change.did change.call) 1 0

  -- a tick that is due counts
  tick_counts : (caller to : ℕ) → threshold ≤ to → counted (tick_of caller to) ≡ 1
  tick_counts caller to due = ap (λ b. cond b 1 0) (le-leb threshold to due)

  pub same_length : (h front added : History) (caller to : ℕ) → threshold ≤ to → with_done h caller (Tick to) ≡ front ++ added → certificates threshold (with_done h caller (Tick to)) ≡ certificates threshold front
      → length (with_done h caller (Tick to)) ≡ length front
  same_length h front added caller to due is count = elim (ends_with (tick_of caller to) h front added is) [
    | inl none ↦ ap length is ∙ ap (λ (l : History). length (front ++ l)) none ∙ ap length (append-nil front)
    | inr more ↦
        let all : certificates threshold (with_done h caller (Tick to)) ≡ certificates threshold front + certificates threshold added = ap (certificates threshold) is ∙ sum_by-append counted front added in
        let last : certificates threshold added ≡ certificates threshold more.0 + (0 + counted (tick_of caller to)) = ap (certificates threshold) more.1 ∙ sum_by-append counted more.0 (tick_of caller to ∷ []) in
        let one = tick_counts caller to due in
        absurd (omega (arith, all, last, one, count))
  ]

-- so a certificate that stands, and has the number of the whole history, is of its last tick
pub placed_last : (config : Fields) (opened : Opened) (h : History) (caller to : ℕ) (view : View) (certificate : Certificate) (place : ℕ) → config.threshold ≤ to → place ≡ length h + 1
    → certificate.number ≡ certificates config.threshold (with_done h caller (Tick to)) → IsCertified config opened (with_done h caller (Tick to)) view certificate
    → IsCertifiedAt config opened (with_done h caller (Tick to)) view (place, certificate)
placed_last config opened h caller to view certificate place due here number (before_tick, by, is) =
    let begins = is.stands.begins in
    let front = with_done before_tick by (Tick certificate.clock) in
    let same = same_length config.threshold h front begins.0 caller to due begins.1 (sym number ∙ is.number) in
    let one = length-append h (tick_of caller to ∷ []) in
    let other = length-append before_tick (tick_of by certificate.clock ∷ []) in
    (before_tick, by, (let e : place ≡ length before_tick + 1 = omega (arith, here, same, one, other) in e), is)
