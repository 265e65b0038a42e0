-- What a session knows after a call, whatever its log.
use Rattle.std.proofs.Common.{◌≡◌, ◌<◌, ◌^◌, ℕ, ◌+◌, ◌-◌, ◌/◌, List, [], ◌++◌, length, sym, ap, ◌∙◌, subst, arith, append-nil}
use Rattle.lethe_turn.specs.Lists.{placed}
use Rattle.lethe_turn.specs.Seats.{HasSeenMore, IsFree, Joined, Seated, entered, first_view, left_of, passed, passed_noting, right_of}
use Rattle.lethe_turn.specs.declared.view.View.{View}
use Rattle.lethe_store.specs.StoreViews.{StoreView, IsSameStore}
use Rattle.lethe_store.specs.Sessions.{HasDone, HasSplit, IsFirst, IsReady, KnowsOpened}

module _ {E M V : Type 0} where
  -- a turn was taken, and passed on with these entries and these marks
  pub done_so : (v w x : View V E M) (said : List E) (noted : List M) → HasSeenMore v w → x ≡ passed_noting noted (entered said w) → HasDone said noted v x
  done_so v w x said noted more is = record {
    seen = (w.seen, more.seen, ap (λ u. u.seen) is);
    noted_is = (w.noted, more.noted, ap (λ u. u.noted) is);
    mine = ap (λ u. u.mine) is ∙ ((λ i. more.mine i ++ placed (w.start + length w.seen + 1) said) ∙ ap (λ n. v.mine ++ placed (n + length w.seen + 1) said) more.start);
    marks = ap (λ u. u.marks) is ∙ ap (λ l. l ++ noted) more.marks;
    parts = ap (λ u. u.parts) is ∙ more.parts;
    opened = ap (λ u. u.opened) is ∙ more.opened;
    start = ap (λ u. u.start) is ∙ more.start;
  }

  -- a turn was taken, and passed on with nothing
  pub looked : (v w x : View V E M) → HasSeenMore v w → x ≡ passed w → HasDone [] [] v x
  looked v w x more is = record {
    seen = (w.seen, more.seen, ap (λ u. u.seen) is ∙ sym (append-nil w.seen));
    noted_is = (w.noted, more.noted, ap (λ u. u.noted) is ∙ sym (append-nil w.noted));
    mine = ap (λ u. u.mine) is ∙ more.mine ∙ sym (append-nil v.mine);
    marks = ap (λ u. u.marks) is ∙ more.marks ∙ sym (append-nil v.marks);
    parts = ap (λ u. u.parts) is ∙ more.parts;
    opened = ap (λ u. u.opened) is ∙ more.opened;
    start = ap (λ u. u.start) is ∙ more.start;
  }

  -- a turn was taken, and passed on with these marks alone
  pub noted_so : (v w x : View V E M) (noted : List M) → HasSeenMore v w → x ≡ passed_noting noted w → HasDone [] noted v x
  noted_so v w x noted more is = record {
    seen = (w.seen, more.seen, ap (λ u. u.seen) is ∙ sym (append-nil w.seen));
    noted_is = (w.noted, more.noted, ap (λ u. u.noted) is);
    mine = ap (λ u. u.mine) is ∙ more.mine ∙ sym (append-nil v.mine);
    marks = ap (λ u. u.marks) is ∙ ap (λ l. l ++ noted) more.marks;
    parts = ap (λ u. u.parts) is ∙ more.parts;
    opened = ap (λ u. u.opened) is ∙ more.opened;
    start = ap (λ u. u.start) is ∙ more.start;
  }

  -- the same as what was seen more
  pub more_passed : (v w x : View V E M) → HasSeenMore v w → x ≡ passed w → HasSeenMore v x
  more_passed v w x more is = record {
    seen = (more.seen.0, more.seen.1 ∙ sym (ap (λ u. u.seen) is));
    noted = (more.noted.0, more.noted.1 ∙ sym (ap (λ u. u.noted) is));
    mine = ap (λ u. u.mine) is ∙ more.mine;
    marks = ap (λ u. u.marks) is ∙ more.marks;
    parts = ap (λ u. u.parts) is ∙ more.parts;
    opened = ap (λ u. u.opened) is ∙ more.opened;
    start = ap (λ u. u.start) is ∙ more.start;
  }

  pub knows_after : (start : ℕ → ℕ) (see : V → StoreView) (v w : View V E M) → KnowsOpened start see v → w.opened ≡ v.opened → w.start ≡ v.start → KnowsOpened start see w
  knows_after start see v w (o, is, st) op same = (o, op ∙ is, same ∙ st)

  -- who took its turn and passed it on is ready again
  pub ready_after : (start : ℕ → ℕ) (see : V → StoreView) (m : Seated E M V) (w : View V E M) (n : Seated E M V) (said : List E) (noted : List M) → IsReady start see m → HasSeenMore m.0 w
      → n ≡ (passed_noting noted (entered said w), []) → IsReady start see n
  ready_after start see m w n said noted ready more is = (
    (ap (λ k. k.1) is, (subst (λ p. 0 < p) (sym (ap (λ k. k.0.parts) is ∙ more.parts)) ready.0.1.0, ap (λ k. k.0.waits) is, ap (λ k. k.0.holds) is)),
    knows_after start see m.0 n.0 ready.1 (ap (λ k. k.0.opened) is ∙ more.opened) (ap (λ k. k.0.start) is ∙ more.start),
  )

  pub noted_ready : (start : ℕ → ℕ) (see : V → StoreView) (m : Seated E M V) (w : View V E M) (n : Seated E M V) (noted : List M) → IsReady start see m → HasSeenMore m.0 w → n ≡ (passed_noting noted w, []) → IsReady start see n
  noted_ready start see m w n noted ready more is = (
    (ap (λ k. k.1) is, (subst (λ p. 0 < p) (sym (ap (λ k. k.0.parts) is ∙ more.parts)) ready.0.1.0, ap (λ k. k.0.waits) is, ap (λ k. k.0.holds) is)),
    knows_after start see m.0 n.0 ready.1 (ap (λ k. k.0.opened) is ∙ more.opened) (ap (λ k. k.0.start) is ∙ more.start),
  )

  pub looked_ready : (start : ℕ → ℕ) (see : V → StoreView) (m : Seated E M V) (w : View V E M) (n : Seated E M V) → IsReady start see m → HasSeenMore m.0 w → n ≡ (passed w, []) → IsReady start see n
  looked_ready start see m w n ready more is = (
    (ap (λ k. k.1) is, (subst (λ p. 0 < p) (sym (ap (λ k. k.0.parts) is ∙ more.parts)) ready.0.1.0, ap (λ k. k.0.waits) is, ap (λ k. k.0.holds) is)),
    knows_after start see m.0 n.0 ready.1 (ap (λ k. k.0.opened) is ∙ more.opened) (ap (λ k. k.0.start) is ∙ more.start),
  )

  -- the first session of a store
  pub ready_first : (start : ℕ → ℕ) (see : V → StoreView) (o : V) (count : ℕ) (m : Seated E M V) → m ≡ (first_view o count, []) → count ≡ start (see o).view.state.count → IsReady start see m
  ready_first start see o count m is counts = (
    (ap (λ n. n.1) is, (subst (λ p. 0 < p) (sym (ap (λ n. n.0.parts) is)) (let z : 0 < 2 ^ 62 = omega arith in z), ap (λ n. n.0.waits) is, ap (λ n. n.0.holds) is)),
    (o, ap (λ n. n.0.opened) is, ap (λ n. n.0.start) is ∙ counts),
  )

  pub first_of : (Tells : Type 0) (see : V → StoreView) (handed : StoreView) (count : ℕ) (m : Seated E M V) (o : V) → m ≡ (first_view o count, []) → IsSameStore Tells handed (see o) → IsFirst Tells see handed count m
  first_of Tells see handed count m o is same = (o, is, same)

  -- half of a session's parts is some, where it has two
  pub ready_left : (start : ℕ → ℕ) (see : V → StoreView) (m n : Seated E M V) → IsReady start see m → 1 < m.0.parts → n ≡ (left_of m.0, m.1) → IsReady start see n
  ready_left start see m n ready parts is = (
    (ap (λ k. k.1) is ∙ ready.0.0, (subst (λ p. 0 < p) (sym (ap (λ k. k.0.parts) is)) (let z : 0 < m.0.parts - m.0.parts / 2 = omega arith in z), ap (λ k. k.0.waits) is ∙ ready.0.1.1, ap (λ k. k.0.holds) is ∙ ready.0.1.2)),
    knows_after start see m.0 n.0 ready.1 (ap (λ k. k.0.opened) is) (ap (λ k. k.0.start) is),
  )

  pub ready_right : (start : ℕ → ℕ) (see : V → StoreView) (m n : Seated E M V) → IsReady start see m → 1 < m.0.parts → n ≡ (right_of m.0, []) → IsReady start see n
  ready_right start see m n ready parts is = (
    (ap (λ k. k.1) is, (subst (λ p. 0 < p) (sym (ap (λ k. k.0.parts) is)) (let z : 0 < m.0.parts / 2 = omega arith in z), ap (λ k. k.0.waits) is, ap (λ k. k.0.holds) is)),
    knows_after start see m.0 n.0 ready.1 (ap (λ k. k.0.opened) is) (ap (λ k. k.0.start) is),
  )

  -- so a split leaves both ready
  pub split_so : (v w u : View V E M) (m n : Seated E M V) → HasSeenMore v w → u ≡ passed w → m.0 ≡ left_of u → n.0 ≡ right_of u → HasSplit v m.0 n.0
  split_so v w u m n more is left right = record { at = u; more = more_passed v w u more is; left = left; right = right }

  pub ready_joined : (start : ℕ → ℕ) (see : V → StoreView) (m : Seated E M V) (w : View V E M) (n : Seated E M V) → IsReady start see m → IsFree n → Joined m.0 w n.0 → IsReady start see n
  ready_joined start see m w n ready free joined = (free, knows_after start see m.0 n.0 ready.1 joined.opened joined.start)
