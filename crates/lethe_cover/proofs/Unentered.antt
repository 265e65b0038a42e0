-- Changes whose record is no entry: deletes of what isn't there, and erases.
use Rattle.std.proofs.Common.{◌≡◌, inl, ℕ, ◌<◌, cond, List, [], ◌∷◌, ◌++◌, Some, None, refl, sym, ap, ◌∙◌, arith}
use Rattle.lethe_cover.proofs.Common.{Contains-append_left, Contains-push, Contains-push_cases, nat_list_cmp_total, ⊎_elim, ⊎_map, Bytes, same_key, Ends, Map, History, after, clock_before, Layout, Record, Written, Blind, Erasing, Shows, IsNewest, IsMap, answer_under, done_at, Covers, Delete, Erase, Done, Entry, Pending, same_key-true, followed, IsCounted, next_place, with_done, recorded, accepted, erasing}
use Rattle.std.specs.FinMap as finmap
use Rattle.lethe_cover.proofs.Bridge.{map_told}
use Rattle.lethe_cover.proofs.Changed.{done_next, map_next, change_covers}
use Rattle.lethe_cover.proofs.Grown.{clock_next}
use Rattle.lethe_cover.proofs.Erasures.{answer_push, left_by, get_left}
use Rattle.lethe_cover.proofs.Records.{same_key-false, shows_cases, shows_still, held_shown, shown_within}

-- a record that is no entry leaves what reads see
module _ (l : Layout) (r : Record) (pending : List Pending) (none : (entry : Entry) → r ≡ Written entry → ⊥) where
  shows_before : (entry : Entry) → Shows (followed l r pending) entry → Shows l entry
  shows_before entry is = ⊎_elim (λ old. old) (λ new. absurd (none entry new)) (shows_cases l r pending entry is)

  shows_behind : (entry : Entry) → Shows l entry → Shows (followed l r pending) entry
  shows_behind entry is = ⊎_elim (λ still. still) (λ replaced. let key = replaced.0 in absurd (none key.entry key.is)) (shows_still l r pending entry is)

  map_behind : (m : Map) → IsMap (Shows l) pending m → IsMap (Shows (followed l r pending)) pending m
  map_behind m = map_told (Shows l) (Shows (followed l r pending)) pending m shows_behind shows_before

module _ (threshold caller : ℕ) (h : History) (l : Layout) (covers : Covers threshold h l) (counted : IsCounted h l)
    (key : Bytes) (none : (entry : Entry) → Shows l entry → entry.key ≡ key → ⊥)
  where
    got : (q : Bytes) → finmap.get (after (with_done h caller (Delete key))).map q ≡ cond (same_key q key) None (finmap.get (after h).map q)
    got q = map_next h caller (Delete key) q ∙ finmap.get-remove nat_list_cmp_total (after h).map key q

    blind_newest : (entry : Entry) → IsNewest (Shows l) entry → answer_under l.pending entry ≡ finmap.get (after (with_done h caller (Delete key))).map entry.key
    blind_newest entry newest = grind (arith, covers.same_map.newest entry newest, got entry.key, same_key-false entry.key key (none entry newest.shown))

    blind_absent : (k : Bytes) → ((entry : Entry) → Shows l entry → entry.key ≡ k → ⊥) → finmap.get (after (with_done h caller (Delete key))).map k ≡ None
    blind_absent k absent = grind (arith, covers.same_map.absent k absent, got k)

    pub blind_covers : Covers threshold (with_done h caller (Delete key)) (recorded l (Blind (next_place h))) × IsCounted (with_done h caller (Delete key)) (recorded l (Blind (next_place h)))
    blind_covers = change_covers threshold caller h l covers counted (Delete key) (Blind (next_place h)) l.pending (record {
      next = refl;
      said = tt;
      fresh = λ time is. absurd is;
      older = λ entry old since is. absurd (let clash : Blind (next_place h) ≡ Written entry = is in cc);
      stays = λ erase there. there;
      comes = λ erase there. inl there;
      ends = λ entry swept dkey value held is erases.
          let newest = held_shown threshold h l covers entry swept held in
          absurd (none newest.0 newest.1 (newest.2 ∙ same_key-true entry.key key erases));
      map = map_behind l (Blind (next_place h)) l.pending (λ entry is. let clash : Blind (next_place h) ≡ Written entry = is in cc)
          (after (with_done h caller (Delete key))).map (record { newest = blind_newest; absent = blind_absent });
    })

-- an erase becomes pending
module _ (threshold caller : ℕ) (h : History) (l : Layout) (covers : Covers threshold h l) (counted : IsCounted h l)
    (some : 0 < threshold) (clock : l.clock ≡ (after h).clock) (range : Ends)
  where
    abbrev the_erase : Pending
    the_erase = accepted h l range

    abbrev the_pending : List Pending
    the_pending = l.pending ++ the_erase ∷ []

    left : (q : Bytes) → finmap.get (after (with_done h caller (Erase range))).map q ≡ left_by range (finmap.get (after h).map q)
    left q = map_next h caller (Erase range) q ∙ get_left range (after h).map q

    erase_map : IsMap (Shows l) the_pending (after (with_done h caller (Erase range))).map
    erase_map = record {
      newest = λ entry newest. answer_push l.pending the_erase entry.seq entry.body (omega (arith, shown_within threshold h l covers entry newest.shown))
          ∙ ap (left_by range) (covers.same_map.newest entry newest) ∙ sym (left entry.key);
      absent = λ key absent. left key ∙ ap (left_by range) (covers.same_map.absent key absent);
    }

    done : done_at (with_done h caller (Erase range)) (next_place h) ≡ Some (Erase range)
    done = done_next h caller (Erase range) (next_place h) refl

    timed : l.clock ≡ clock_before (with_done h caller (Erase range)) (next_place h)
    timed = clock ∙ sym (clock_next h (record { caller = caller; call = Erase range; did = Done }) (next_place h) (omega arith))

    pub erase_covers : Covers threshold (with_done h caller (Erase range)) (erasing l the_erase) × IsCounted (with_done h caller (Erase range)) (erasing l the_erase)
    erase_covers = change_covers threshold caller h l covers counted (Erase range) (Erasing the_erase) the_pending (record {
      next = refl;
      said = record { done = done; timed = timed };
      fresh = λ time is. record { place = next_place h; call = Erase range; done = done; erasure = tt; timed = sym is ∙ timed; fresh = omega arith };
      older = λ entry old since is. absurd (let clash : Erasing the_erase ≡ Written entry = is in cc);
      stays = λ erase there. Contains-append_left l.pending (the_erase ∷ []) erase there;
      comes = λ erase there. ⊎_map (λ old. old) (ap Erasing) (Contains-push_cases l.pending the_erase erase there);
      ends = λ entry swept dkey value held is erases. (the_erase, Contains-push l.pending the_erase, refl);
      map = map_behind l (Erasing the_erase) the_pending (λ entry is. let clash : Erasing the_erase ≡ Written entry = is in cc)
          (after (with_done h caller (Erase range))).map erase_map;
    })
