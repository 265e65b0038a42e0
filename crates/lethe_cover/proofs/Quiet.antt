-- Changes that end no put and leave the map and the parts.
use Rattle.std.proofs.Common.{◌≡◌, ℕ, ◌≤◌, false, true, IsTrue, [], ◌∷◌, ◌++◌, length, Some, sym, ap, ◌∙◌, subst, arith}
use Rattle.lethe_cover.proofs.Common.{EntriesCover, shown_held, length_push, ⊎_elim, Bytes, History, Change, after, is_eraser, cause_of, Layout, Holds, Shows, Tells, IsMap, IsCovered, AreFresh, Covers, Call, Tick, Done, Failed, Entry, after-push, IsCounted, next_place, with_done, with_failed, ticked}
use Rattle.lethe_cover.proofs.Bridge.{layout_covers, same_order}
use Rattle.lethe_cover.proofs.Grown.{done_old, placed_more, accepted_more, fresh_more, clock_old, cause_more}
use Rattle.lethe_cover.proofs.Records.{held_within}

module _ (threshold : ℕ) (h : History) (l : Layout) (covers : Covers threshold h l) (change : Change)
    (quiet : (key : Bytes) (dkey : ℕ) → IsTrue (is_eraser key dkey change) → ⊥)
    (same : (after (h ++ change ∷ [])).map ≡ (after h).map)
    (clock count : ℕ) (fresh : AreFresh threshold h clock (Holds l) (Tells l))
  where
    -- the cause of what is held is the one that it had
    cause_same : (entry : Entry) (swept cause : ℕ) → Holds l entry swept → cause_of (h ++ change ∷ []) entry.seq ≡ Some cause
        → (cause_of h entry.seq ≡ Some cause) × (cause ≤ length h)
    cause_same entry swept cause held is =
        ⊎_elim (λ before. before) (λ now. absurd (quiet now.key now.dkey now.erases)) (cause_more h change entry.seq cause (held_within threshold h l covers entry swept held) is)

    quiet_entries : EntriesCover threshold (h ++ change ∷ []) clock (Holds l) (Shows l) l.pending
    quiet_entries = record {
      held = shown_held l;
      places = λ entry swept held. placed_more h change entry.seq entry.key entry.body (covers.places.entries entry swept held);
      same_map = subst (IsMap (Shows l) l.pending) (sym same) covers.same_map;
      deletes_covered = λ entry swept cause held put is no_erase.
          let before = cause_same entry swept cause held is in
          subst (IsCovered (Shows l) entry) (sym (clock_old h change cause (omega (arith, before.1))))
          (covers.deletes_covered entry swept cause held put before.0 (λ range erased. no_erase range (done_old h change cause before.1 ∙ erased)));
      erases_covered = λ entry swept cause range held put is erased.
          let before = cause_same entry swept cause held is in
          covers.erases_covered.pending entry swept cause range held put before.0 (sym (done_old h change cause before.1) ∙ erased);
      times_fresh = λ entry swept since held has. fresh_more h change threshold clock since (fresh.entries entry swept since held has);
    }

    quiet_covers : Covers threshold (h ++ change ∷ []) (record l { clock = clock; count = count })
    quiet_covers = layout_covers threshold (h ++ change ∷ []) (record l { clock = clock; count = count }) quiet_entries (same_order l clock count l.next l.certificate l.pending covers.newer_above)
        (λ erase is. (accepted_more h change erase (covers.places.erases erase is), fresh_more h change threshold clock erase.time (fresh.erases erase is)))
        (λ file there. omega (arith, length_push h change, covers.erases_covered.swept file there)) covers.erases_covered.unswept

pub failed_covers : (threshold caller : ℕ) (h : History) (l : Layout) → Covers threshold h l → (call : Call) (before after : ℕ)
    → Covers threshold (with_failed h caller call before after) l
failed_covers threshold caller h l covers call before behind =
    let change : Change = record { caller = caller; call = call; did = Failed before behind } in
    quiet_covers threshold h l covers change (λ key dkey erases. let clash : false ≡ true = erases in cc) (ap (λ s. s.map) (after-push h change)) l.clock l.count covers.times_fresh

pub tick_covers : (threshold caller : ℕ) (h : History) (l : Layout) → Covers threshold h l → IsCounted h l → (to : ℕ) → AreFresh threshold h to (Holds l) (Tells l)
    → Covers threshold (with_done h caller (Tick to)) (ticked h l to) × IsCounted (with_done h caller (Tick to)) (ticked h l to)
tick_covers threshold caller h l covers counted to fresh = let change : Change = record { caller = caller; call = Tick to; did = Done } in (
  quiet_covers threshold h l covers change (λ key dkey erases. let clash : false ≡ true = erases in cc) (ap (λ s. s.map) (after-push h change)) to (next_place h) fresh,
  record { count = omega (arith, length_push h change); places = λ r is. omega (arith, length_push h change, counted.places r is) },
)
