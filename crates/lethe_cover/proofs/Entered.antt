-- Puts, and deletes with a tombstone: changes whose record is an entry.
use Rattle.std.proofs.Common.{◌≡◌, ◌⊎◌, inl, inr, ℕ, ◌<◌, ◌≤◌, min, true, false, cond, Contains, Option, Some, None, unwrap_or, option_and_then, refl, sym, ap, ◌∙◌, subst, arith}
use Rattle.lethe_cover.proofs.Common.{nat_list_cmp_total, ⊎_elim, Bytes, same_key, Pair, History, after, pair_of, answer_under, Layout, Written, buffer_of, InBuffer, Shows, IsNewest, IsMap, IsFresh, Covers, Call, Put, Delete, Erase, Done, Entry, Pending, shown_held, same_key-self, same_key-true, followed, IsCounted, next_place, with_done, recorded, time_of, put_entry, tomb_entry}
use Rattle.std.specs.FinMap as finmap
use Rattle.lethe_cover.proofs.Records.{buffer_keyed, same_key-false, shows_cases, shows_still, shows_new, held_within, shown_within}
use Rattle.lethe_cover.proofs.Changed.{done_next, map_next, change_covers}
use Rattle.lethe_cover.proofs.Grown.{done_within, fresh_more, clock_next}
use Rattle.lethe_cover.proofs.Erasures.{answer_late}

-- the active buffer's entry of a key has its time
time_at : (key : Bytes) (l : Layout) (old : Entry) → InBuffer (buffer_of l.active) old → old.key ≡ key → time_of key l ≡ old.since
time_at key l old is same = ap (option_and_then (λ entry. entry.since)) (ap (finmap.get (buffer_of l.active)) (sym same) ∙ is)

time_from : (key : Bytes) (l : Layout) (time : ℕ) → time_of key l ≡ Some time → (old : Entry) × (finmap.get (buffer_of l.active) key ≡ Some old) × (old.since ≡ Some time)
time_from key l time is = grind arith

module _ (threshold caller : ℕ) (h : History) (l : Layout) (covers : Covers threshold h l) (call : Call) where
  -- a buffer's time stays fresh
  time_fresh : (key : Bytes) (time : ℕ) → time_of key l ≡ Some time → IsFresh threshold (with_done h caller call) l.clock time
  time_fresh key time is =
      let old = time_from key l time is in
      let there : InBuffer (buffer_of l.active) old.0 = ap (finmap.get (buffer_of l.active)) (buffer_keyed l.active key old.0 old.1) ∙ old.1 in
      let held = shown_held l old.0 (inl (inl there)) in
      fresh_more h (record { caller = caller; call = call; did = Done }) threshold l.clock time (covers.times_fresh.entries old.0 held.0 time held.1 old.2)

  -- the map has what the new entry says of its key, and of the others what it had
  module _ (new : Entry) (next : new.seq ≡ next_place h)
      (got : (key : Bytes) → finmap.get (after (with_done h caller call)).map key ≡ cond (same_key key new.key) (pair_of new.body) (finmap.get (after h).map key))
    where
      abbrev now : Layout
      now = followed l (Written new) l.pending

      shown_now : Shows now new
      shown_now = shows_new l (Written new) l.pending new refl

      got_other : (key : Bytes) → (key ≡ new.key → ⊥) → finmap.get (after (with_done h caller call)).map key ≡ finmap.get (after h).map key
      got_other key apart = grind (arith, got key, same_key-false key new.key apart)

      got_own : finmap.get (after (with_done h caller call)).map new.key ≡ pair_of new.body
      got_own = grind (arith, got new.key, same_key-self new.key)

      shown_still : (f : Entry) → Shows l f → Shows now f ⊎ (f.key ≡ new.key)
      shown_still f shown = grind (arith, shows_still l (Written new) l.pending f shown)

      -- what is newest and was shown is of another key
      unlike : (entry : Entry) → IsNewest (Shows now) entry → Shows l entry → entry.key ≡ new.key → ⊥
      unlike entry newest shown same = omega (arith, newest.last new shown_now (sym same), shown_within threshold h l covers entry shown, next)

      late : (erase : Pending) → Contains l.pending erase → erase.seq ≤ new.seq
      late erase there = omega (arith, next, done_within h erase.seq (Erase erase.range) (covers.places.erases erase (inl there)).done)

      was_newest : (entry : Entry) → IsNewest (Shows now) entry → Shows l entry → IsNewest (Shows l) entry
      was_newest entry newest old = record {
        shown = old;
        last = λ f shown same. ⊎_elim (λ still. newest.last f still same) (λ replaced. absurd (unlike entry newest old (sym same ∙ replaced))) (shown_still f shown);
      }

      entered_newest : (entry : Entry) → IsNewest (Shows now) entry → answer_under l.pending entry ≡ finmap.get (after (with_done h caller call)).map entry.key
      entered_newest entry newest = elim (shows_cases l (Written new) l.pending entry newest.shown) [
        | inl old ↦ covers.same_map.newest entry (was_newest entry newest old) ∙ sym (got_other entry.key (unlike entry newest old))
        | inr made ↦
            let one : new ≡ entry = cc in
            subst (λ e. answer_under l.pending e ≡ finmap.get (after (with_done h caller call)).map e.key) one (answer_late l.pending new.seq new.body late ∙ sym got_own)
      ]

      entered_absent : (key : Bytes) → ((entry : Entry) → Shows now entry → entry.key ≡ key → ⊥) → finmap.get (after (with_done h caller call)).map key ≡ None
      entered_absent key none =
          let other : key ≡ new.key → ⊥ = λ same. none new shown_now (sym same) in
          got_other key other ∙ covers.same_map.absent key (λ entry shown same. ⊎_elim (λ still. none entry still same) (λ replaced. other (sym same ∙ replaced)) (shown_still entry shown))

      entered_map : IsMap (Shows now) l.pending (after (with_done h caller call)).map
      entered_map = record { newest = entered_newest; absent = entered_absent }

module _ (threshold caller : ℕ) (h : History) (l : Layout) (covers : Covers threshold h l) (counted : IsCounted h l) (key : Bytes) where
  module _ (dkey : ℕ) (value : Bytes) where
    abbrev the_put : Entry
    the_put = put_entry h l key dkey value

    pub put_covers : Covers threshold (with_done h caller (Put key dkey value)) (recorded l (Written the_put)) × IsCounted (with_done h caller (Put key dkey value)) (recorded l (Written the_put))
    put_covers = change_covers threshold caller h l covers counted (Put key dkey value) (Written the_put) l.pending (record {
      next = refl;
      said = done_next h caller (Put key dkey value) (next_place h) refl;
      fresh = time_fresh threshold caller h l covers (Put key dkey value) key;
      older = λ entry old since is there same has.
          let one : the_put ≡ entry = cc in
          (since, ap (λ e. e.since) (sym one) ∙ time_at key l old there (same ∙ ap (λ e. e.key) (sym one)) ∙ has, omega arith);
      stays = λ erase there. there;
      comes = λ erase there. inl there;
      ends = λ entry swept d v held is erases. absurd (let clash : false ≡ true = erases in cc);
      map = entered_map threshold caller h l covers (Put key dkey value) the_put refl (λ q. map_next h caller (Put key dkey value) q
          ∙ finmap.get-insert nat_list_cmp_total (after h).map key (let pair : Pair = (dkey, value) in pair) q);
    })

  module _ (some : 0 < threshold) (clock : l.clock ≡ (after h).clock) where
    abbrev the_tomb : Entry
    the_tomb = tomb_entry h l key

    abbrev the_time : ℕ
    the_time = min l.clock (unwrap_or (time_of key l) l.clock)

    -- the tombstone's time is the clock, or the buffer's smaller one
    time_is : (o : Option ℕ) → (min l.clock (unwrap_or o l.clock) ≡ l.clock) ⊎ (o ≡ Some (min l.clock (unwrap_or o l.clock)))
    time_is o = grind arith

    time_least : (o : Option ℕ) (since : ℕ) → o ≡ Some since → min l.clock (unwrap_or o l.clock) ≤ since
    time_least o since is = grind arith

    tomb_fresh : (time : ℕ) → Some the_time ≡ Some time → IsFresh threshold (with_done h caller (Delete key)) l.clock time
    tomb_fresh time is = let same : the_time ≡ time = cc in subst (IsFresh threshold (with_done h caller (Delete key)) l.clock) same (elim (time_is (time_of key l)) [
      | inl now ↦
          let done = done_next h caller (Delete key) (next_place h) refl in
          let timed = now ∙ clock ∙ sym (clock_next h (record { caller = caller; call = Delete key; did = Done }) (next_place h) (omega arith)) in
          record { place = next_place h; call = Delete key; done = done; erasure = tt; timed = timed; fresh = omega arith }
      | inr before ↦ time_fresh threshold caller h l covers (Delete key) key the_time before
    ])

    pub delete_covers : Covers threshold (with_done h caller (Delete key)) (recorded l (Written the_tomb)) × IsCounted (with_done h caller (Delete key)) (recorded l (Written the_tomb))
    delete_covers = change_covers threshold caller h l covers counted (Delete key) (Written the_tomb) l.pending (record {
      next = refl;
      said = inl (done_next h caller (Delete key) (next_place h) refl);
      fresh = tomb_fresh;
      older = λ entry old since is there same has.
          let one : the_tomb ≡ entry = cc in
          (the_time, ap (λ e. e.since) (sym one), time_least (time_of key l) since (time_at key l old there (same ∙ ap (λ e. e.key) (sym one)) ∙ has));
      stays = λ erase there. there;
      comes = λ erase there. inl there;
      ends = λ entry swept dkey value held is erases.
          let shown = shows_new l (Written the_tomb) l.pending the_tomb refl in
          let newer = held_within threshold h l covers entry swept held in
          record { above = the_tomb; shown = shown; same = sym (same_key-true entry.key key erases); newer = omega arith; since = the_time; has = refl; old = omega arith };
      map = entered_map threshold caller h l covers (Delete key) the_tomb refl (λ q. map_next h caller (Delete key) q ∙ finmap.get-remove nat_list_cmp_total (after h).map key q);
    })
