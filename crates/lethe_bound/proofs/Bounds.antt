-- Nothing that a layout holds when a pin is made gets overdue before the pin's limit.
use Rattle.std.proofs.Common.{◌≡◌, inl, inr, ℕ, ◌+◌, ◌<◌, ◌≤◌, length, List, [], ◌∷◌, ◌++◌, All, Contains, Option, Some, None, IsSomeAnd, option_map, refl, sym, ap, ◌∙◌, subst, arith}
use Rattle.std.proofs.lemmas.List.{length_push}
use Rattle.std.proofs.lemmas.List.Elements.{All-contains}
use Rattle.lethe_base.specs.Causes.{IsOverdue, cause_of, erased}
use Rattle.lethe_base.specs.Covers.{Covers}
use Rattle.lethe_base.specs.Held.{Holds, Tells}
use Rattle.lethe_base.specs.History.{Change, History, after, clock_before}
use Rattle.lethe_base.specs.Layout.{Layout}
use Rattle.lethe_base.specs.Matching.{IsPut}
use Rattle.lethe_base.specs.Spent.{IsSpent}
use Rattle.lethe_base.specs.declared.entry.Entry.{Entry}
use Rattle.lethe_base.specs.declared.pending.Pending.{Pending}
use Rattle.lethe_base.proofs.CauseLaws.{cause_is_first}
use Rattle.lethe_base.proofs.HeldLaws.{shown_held}
use Rattle.lethe_base.proofs.LeftErases.{left_unspent, unspent_left}
use Rattle.lethe_base.proofs.Overdue.{erased_is, no_erase}
use Rattle.lethe_cover.proofs.Grown.{cause_more, clock_next, clock_old, placed_within}
use Rattle.lethe_bound.specs.Limits.{HoldsPut, IsBounded, IsLimit, IsOwed}

-- what was erased has a cause, and the time is the clock before it
timed : (h : History) (place time : ℕ) → erased h place ≡ Some time → (cause : ℕ) × (cause_of h place ≡ Some cause) × (clock_before h cause ≡ time)
timed h place time is = by (cause_of h place) refl is
  where
    by : (o : Option ℕ) → cause_of h place ≡ o → option_map (clock_before h) o ≡ Some time → (cause : ℕ) × (cause_of h place ≡ Some cause) × (clock_before h cause ≡ time)
    by None at is = absurd (let clash : None ≡ Some time = is in cc)
    by (Some cause) at is = (cause, at, (let same : Some (clock_before h cause) ≡ Some time = is in cc))

-- an erase that a held put waits for isn't spent
waits : (l : Layout) (entry : Entry) (swept : ℕ) (erase : Pending) → Holds l entry swept → IsPut entry.body → swept < erase.seq → entry.seq < erase.seq → IsSpent l erase → ⊥
waits l entry swept erase (inl recorded) put below behind spent = let upto = spent.segments entry recorded.0 put in absurd (omega (arith, upto, behind))
waits l entry swept erase (inr filed) put below behind spent =
    let upto = spent.files filed.0.file filed.0.there in
    let same = filed.1 in
    absurd (omega (arith, upto, same, below))

-- an erase that is owed is told of
told : (l : Layout) (erase : Pending) → IsOwed l erase → Tells l erase
told l erase (inl left) = inl (left_unspent l erase left).0
told l erase (inr recorded) = inr recorded

module _ (threshold limit : ℕ) (h : History) (l : Layout) (covers : Covers threshold h l) (is : IsLimit threshold l limit) where
  -- the cause of what a layout holds isn't more than a threshold before the limit
  not_before : (entry : Entry) (swept cause : ℕ) → Holds l entry swept → IsPut entry.body → cause_of h entry.seq ≡ Some cause → limit ≤ threshold + clock_before h cause
  not_before entry swept cause held put caused = let first = cause_is_first h entry.seq cause caused in elim (erased_is h first.key first.dkey cause first.erases) [
    | inl deleted ↦
        let above = covers.deletes_covered entry swept cause held put caused (no_erase h deleted.0 cause deleted.1) in
        let there = shown_held l above.above above.shown in
        let bound = is.oldest above.since (inl (above.above, there.0, there.1, above.has)) in
        let old = above.old in
        omega (arith, bound, old)
    | inr erased ↦
        let covered = covers.erases_covered.pending entry swept cause erased.0 held put caused erased.1 in
        let pending = covered.0 in
        let below : swept < pending.0.seq = let less = covered.1 in let at = pending.2 in omega (arith, less, at) in
        let behind : entry.seq < pending.0.seq = let less = first.later in let at = pending.2 in omega (arith, less, at) in
        let left = unspent_left l pending.0 (pending.1, waits l entry swept pending.0 held put below behind) in
        let accepted = covers.places.erases pending.0 (inl pending.1) in
        let same : pending.0.time ≡ clock_before h cause = accepted.timed ∙ ap (clock_before h) pending.2 in
        is.oldest (clock_before h cause) (inr (pending.0, inl left, same))
  ]

  -- so a pin that is made now is bounded by its limit
  pub bounded_now : l.clock ≡ (after h).clock → (places : List ℕ) → All (HoldsPut l) places → IsBounded threshold limit h places
  bounded_now clock places all = record {
    clock = subst (λ now. limit ≤ threshold + now) clock is.clock;
    counted = λ place among.
        let there = All-contains (HoldsPut l) places place all among in
        subst (λ p. p ≤ length h) there.seq (placed_within h there.entry.seq there.entry.key there.entry.body (covers.places.entries there.entry there.swept there.held));
    each = λ place time among erased.
        let there = All-contains (HoldsPut l) places place all among in
        let caused = timed h place time erased in
        subst (λ t. limit ≤ threshold + t) caused.2 (not_before there.entry there.swept caused.0 there.held there.put (ap (cause_of h) there.seq ∙ caused.1));
  }

  -- no time that is remembered is due at the clock, so the limit is above it
  pub limit_above : 0 < threshold → l.clock < limit
  limit_above some = elim is.one [
    | inl now ↦ omega (arith, now, some)
    | inr old ↦ elim old.1 [
      | inl entry ↦
          let fresh = covers.times_fresh.entries entry.0 entry.1 old.0 entry.2 entry.3 in
          let later : l.clock < old.0 + threshold = fresh.fresh in
          let equal = old.2 in
          omega (arith, later, equal)
      | inr erase ↦
          let fresh = covers.times_fresh.erases erase.0 (told l erase.0 erase.1) in
          let later : l.clock < erase.0.time + threshold = fresh.fresh in
          let same = erase.2 in
          let equal = old.2 in
          omega (arith, later, same, equal)
    ]
  ]

-- one change more, which doesn't set the clock back
pub bounded_more : (threshold limit : ℕ) (h : History) (change : Change) (places : List ℕ) → IsBounded threshold limit h places
    → (after h).clock ≤ (after (h ++ change ∷ [])).clock → IsBounded threshold limit (h ++ change ∷ []) places
bounded_more threshold limit h change places is forward = record {
  clock = let low = is.clock in omega (arith, low, forward);
  counted = λ place there. let within : place ≤ length h = is.counted place there in omega (arith, within, length_push h change);
  each = λ place time there erased.
      let caused = timed (h ++ change ∷ []) place time erased in
      elim (cause_more h change place caused.0 (is.counted place there) caused.1) [
        | inl old ↦
            let within : caused.0 ≤ length h = old.1 in
            let same : clock_before h caused.0 ≡ time = sym (clock_old h change caused.0 (omega (arith, within))) ∙ caused.2 in
            is.each place time there (ap (option_map (clock_before h)) old.0 ∙ ap Some same)
        | inr now ↦
            let same : (after h).clock ≡ time = sym (clock_next h change caused.0 now.at) ∙ caused.2 in
            subst (λ t. limit ≤ threshold + t) same is.clock
      ];
}

-- what was erased at most a threshold before the limit isn't overdue before it
pub bounded_timely : (threshold limit time : ℕ) (h : History) (places : List ℕ) → IsBounded threshold limit h places → time < limit
    → (place : ℕ) → Contains places place → IsOverdue threshold h time place → ⊥
bounded_timely threshold limit time h places is before place there overdue = by (erased h place) refl overdue
  where
    by : (o : Option ℕ) → erased h place ≡ o → IsSomeAnd o (λ since. since + threshold ≤ time) → ⊥
    by None at overdue = absurd overdue
    by (Some since) at overdue = let low = is.each place since there at in absurd (omega (arith, low, overdue, before))
