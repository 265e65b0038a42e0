-- A change with a record keeps what a layout stands for.
use Rattle.std.proofs.Common.{◌≡◌, ◌⊎◌, inl, inr, ℕ, suc, ◌<◌, ◌≤◌, List, length, Some, option_and_then, refl, sym, ap, ◌∙◌, subst, arith}
use Rattle.lethe_cover.proofs.Common.{EntriesCover, shown_held, length_push, ⊎_elim, Ends, History, Change, after, clock_before, done, done_call, done_at, cause_of, IsPut, Layout, Record, place_of, Holds, Shows, IsPlaced, IsCovered, IsNoErase, HasErase, Covers, Call, Put, Delete, Erase, Tick, Work, Done, Entry, Pending, change_at-push, after-push, Bytes, IsSaid, HasTime, IsRemembered, IsChange, followed, IsCounted, next_place, with_done}
use Rattle.lethe_cover.proofs.Erasures.{put_of}
use Rattle.std.specs.FinMap as finmap
use Rattle.lethe_cover.proofs.Bridge.{layout_covers}
use Rattle.lethe_cover.proofs.Grown.{done_old, placed_more, accepted_more, fresh_more, clock_old, clock_next, EndsNow, cause_more, none_behind}
use Rattle.lethe_cover.proofs.Records.{recorded_cases, tells_cases, holds_cases, shows_still, shows_new, held_within, swept_within, newer_above_more}

-- a done call stands at the place that it took
pub done_next : (h : History) (caller : ℕ) (call : Call) (place : ℕ) → place ≡ next_place h → done_at (with_done h caller call) place ≡ Some call
done_next h caller call place is =
    let at : place ≡ suc (length h) = omega arith in
    ap (done_at (with_done h caller call)) at ∙ ap (option_and_then (λ change. done_call change.did change.call)) (change_at-push h (record { caller = caller; call = call; did = Done }))

-- the map then is what the call makes of the map
pub map_next : (h : History) (caller : ℕ) (call : Call) (key : Bytes) → finmap.get (after (with_done h caller call)).map key ≡ finmap.get (done call (after h)).map key
map_next h caller call key = ap (λ s. finmap.get s.map key) (after-push h (record { caller = caller; call = call; did = Done }))

-- what is remembered of a call that is no erase
remembered_covers : (l : Layout) (place time : ℕ) (entry : Entry) (c : Call) → ((range : Ends) → c ≡ Erase range → ⊥) → IsRemembered l place time entry c → IsCovered (Shows l) entry time
remembered_covers l place time entry (Put key dkey value) none is = is
remembered_covers l place time entry (Delete key) none is = is
remembered_covers l place time entry (Erase range) none is = absurd (none range refl)
remembered_covers l place time entry (Tick to) none is = is
remembered_covers l place time entry Work none is = is

module _ (threshold caller : ℕ) (h : History) (l : Layout) (covers : Covers threshold h l) (counted : IsCounted h l)
    (call : Call) (r : Record) (pending : List Pending) (change : IsChange threshold h caller call l r pending)
  where
    abbrev new : Change
    new = record { caller = caller; call = call; did = Done }

    -- what lay below an entry lies below it still, or below the new one
    covered_still : (entry : Entry) (swept time : ℕ) → Holds l entry swept → IsCovered (Shows l) entry time → IsCovered (Shows (followed l r pending)) entry time
    covered_still entry swept time held is = elim (shows_still l r pending is.above is.shown) [
      | inl still ↦ record { above = is.above; shown = still; same = is.same; newer = is.newer; since = is.since; has = is.has; old = is.old }
      | inr replaced ↦
          let key = replaced.0 in
          let time = change.older key.entry is.above is.since key.is replaced.1 key.same is.has in
          let newer : entry.seq < key.entry.seq = omega (arith, change.next, ap place_of key.is, held_within threshold h l covers entry swept held) in
          record { above = key.entry; shown = shows_new l r pending key.entry key.is; same = sym key.same ∙ is.same; newer = newer; since = time.0; has = time.1; old = omega (arith, time.2, is.old) }
    ]

    -- what is held and has a cause was held; it had the cause, or the change ends it
    cause_cases : (entry : Entry) (swept cause : ℕ) → Holds (followed l r pending) entry swept → cause_of (with_done h caller call) entry.seq ≡ Some cause
        → Holds l entry swept × (((cause_of h entry.seq ≡ Some cause) × (cause ≤ length h)) ⊎ EndsNow h new entry.seq cause)
    cause_cases entry swept cause held is = elim (holds_cases l r pending entry swept held) [
      | inl old ↦ (old, cause_more h new entry.seq cause (held_within threshold h l covers entry swept old) is)
      | inr new_one ↦ absurd (none_behind h new entry.seq cause (omega (arith, change.next, ap place_of new_one.0)) is)
    ]

    -- the put that the change ends
    ended : (entry : Entry) (swept cause : ℕ) → Holds l entry swept → IsPut entry.body → EndsNow h new entry.seq cause
        → IsRemembered (followed l r pending) (next_place h) (after h).clock entry call
    ended entry swept cause held put now =
        let own = put_of entry.body put in
        let placed : done_at h entry.seq ≡ Some (Put entry.key own.0 own.1) = subst (IsPlaced h entry.seq entry.key) own.2 (covers.places.entries entry swept held) in
        change.ends entry swept own.0 own.1 held own.2 (grind (arith, now.put, placed, now.erases))

    deletes : (entry : Entry) (swept cause : ℕ) → Holds (followed l r pending) entry swept → IsPut entry.body → cause_of (with_done h caller call) entry.seq ≡ Some cause
        → IsNoErase (with_done h caller call) cause → IsCovered (Shows (followed l r pending)) entry (clock_before (with_done h caller call) cause)
    deletes entry swept cause held put is no_erase = let cases = cause_cases entry swept cause held is in elim cases.1 [
      | inl before ↦
          let within : cause ≤ length h = before.1 in
          let old = covers.deletes_covered entry swept cause cases.0 put before.0 (λ range erased. no_erase range (done_old h new cause within ∙ erased)) in
          subst (IsCovered (Shows (followed l r pending)) entry) (sym (clock_old h new cause (omega arith))) (covered_still entry swept (clock_before h cause) cases.0 old)
      | inr now ↦
          let taken = done_next h caller call cause (omega (arith, now.at)) in
          subst (IsCovered (Shows (followed l r pending)) entry) (sym (clock_next h new cause now.at))
          (remembered_covers (followed l r pending) (next_place h) (after h).clock entry call (λ range is. no_erase range (taken ∙ ap Some is)) (ended entry swept cause cases.0 put now))
    ]

    erasures : (entry : Entry) (swept cause : ℕ) (range : Ends) → Holds (followed l r pending) entry swept → IsPut entry.body → cause_of (with_done h caller call) entry.seq ≡ Some cause
        → done_at (with_done h caller call) cause ≡ Some (Erase range) → HasErase pending cause × (swept < cause)
    erasures entry swept cause range held put is erased = let cases = cause_cases entry swept cause held is in elim cases.1 [
      | inl before ↦
          let has = covers.erases_covered.pending entry swept cause range cases.0 put before.0 (sym (done_old h new cause before.1) ∙ erased) in
          let erase = has.0 in
          ((erase.0, change.stays erase.0 erase.1, erase.2), has.1)
      | inr now ↦
          let next : cause ≡ next_place h = omega (arith, now.at) in
          let same : Some call ≡ Some (Erase range) = sym (done_next h caller call cause next) ∙ erased in
          let made : call ≡ Erase range = cc in
          let has : HasErase pending (next_place h) = subst (IsRemembered (followed l r pending) (next_place h) (after h).clock entry) made (ended entry swept cause cases.0 put now) in
          (subst (HasErase pending) (sym next) has, omega (arith, next, swept_within threshold h l covers entry swept cases.0))
    ]

    changed_entries : EntriesCover threshold (with_done h caller call) l.clock (Holds (followed l r pending)) (Shows (followed l r pending)) pending
    changed_entries = record {
      held = shown_held (followed l r pending);
      places = λ entry swept held. ⊎_elim (λ old. placed_more h new entry.seq entry.key entry.body (covers.places.entries entry swept old))
          (λ new_one. subst (IsSaid (with_done h caller call)) new_one.0 change.said) (holds_cases l r pending entry swept held);
      same_map = change.map;
      deletes_covered = deletes;
      erases_covered = erasures;
      times_fresh = λ entry swept since held has. ⊎_elim (λ old. fresh_more h new threshold l.clock since (covers.times_fresh.entries entry swept since old has))
          (λ new_one. change.fresh since (subst (λ x. HasTime x since) (sym new_one.0) has)) (holds_cases l r pending entry swept held);
    }

    pub change_covers : Covers threshold (with_done h caller call) (followed l r pending) × IsCounted (with_done h caller call) (followed l r pending)
    change_covers = (
      layout_covers threshold (with_done h caller call) (followed l r pending) changed_entries (newer_above_more threshold h l covers counted r pending change.next)
          (λ erase is. ⊎_elim (λ old. (accepted_more h new erase (covers.places.erases erase old), fresh_more h new threshold l.clock erase.time (covers.times_fresh.erases erase old)))
          (λ new_one. (subst (IsSaid (with_done h caller call)) new_one change.said, change.fresh erase.time (subst (λ x. HasTime x erase.time) (sym new_one) refl))) (tells_cases l r pending change.comes erase is))
          (λ file there. omega (arith, length_push h new, covers.erases_covered.swept file there))
          (λ file erase entry there among unswept spelled. ⊎_elim (λ old. covers.erases_covered.unswept file erase entry there old unswept spelled)
          (λ new_one. omega (arith, change.next, ap place_of new_one, held_within threshold h l covers entry file.swept (inr (record { file = file; there = there; spelled = spelled }, refl))))
          (change.comes erase among)),
      record {
        count = omega (arith, length_push h new, change.next);
        places = λ x is. ⊎_elim (λ old. omega (arith, length_push h new, counted.places x old)) (λ same. omega (arith, length_push h new, change.next, ap place_of same)) (recorded_cases l r pending x is);
      },
    )
