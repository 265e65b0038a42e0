-- A freeze leaves what a layout holds and shows.
use Rattle.std.proofs.Common.{◌≡◌, inl, inr, ℕ, [], Some, None, arith}
use Rattle.lethe_cover.proofs.Common.{⊎_map, EntriesCover, History, after, Layout, Record, Written, frozen_records, IsRecorded, Holds, Shows, Covers, Entry, buffer_recorded, shown_held, none_in, IsCounted, frozen}
use Rattle.lethe_cover.proofs.Bridge.{map_told, parts_cover}

module _ (threshold : ℕ) (h : History) (l : Layout) (covers : Covers threshold h l) (counted : IsCounted h l) (free : l.frozen ≡ None) where
  recorded_before : (r : Record) → IsRecorded (frozen l) r → IsRecorded l r
  recorded_before r (inl active) = absurd (none_in r active)
  recorded_before r (inr old) = inl old

  holds_before : (entry : Entry) (swept : ℕ) → Holds (frozen l) entry swept → Holds l entry swept
  holds_before entry swept = ⊎_map (λ recorded. (recorded_before (Written entry) recorded.0, recorded.1)) (λ filed. filed)

  shows_before : (entry : Entry) → Shows (frozen l) entry → Shows l entry
  shows_before entry is = grind (arith, buffer_recorded [] entry, none_in (Written entry))

  shows_behind : (entry : Entry) → Shows l entry → Shows (frozen l) entry
  shows_behind entry is = grind (arith, buffer_recorded (frozen_records l) entry, none_in (Written entry), free)

  frozen_entries : EntriesCover threshold h l.clock (Holds (frozen l)) (Shows (frozen l)) l.pending
  frozen_entries = record {
    held = shown_held (frozen l);
    places = λ entry swept held. covers.places.entries entry swept (holds_before entry swept held);
    same_map = map_told (Shows l) (Shows (frozen l)) l.pending (after h).map shows_behind shows_before covers.same_map;
    deletes_covered = λ entry swept cause held put is no_erase.
        let old = covers.deletes_covered entry swept cause (holds_before entry swept held) put is no_erase in
        record { above = old.above; shown = shows_behind old.above old.shown; same = old.same; newer = old.newer; since = old.since; has = old.has; old = old.old };
    erases_covered = λ entry swept cause range held. covers.erases_covered.pending entry swept cause range (holds_before entry swept held);
    times_fresh = λ entry swept since held. covers.times_fresh.entries entry swept since (holds_before entry swept held);
  }

  pub freeze_covers : Covers threshold h (frozen l) × IsCounted h (frozen l)
  freeze_covers = (
    parts_cover threshold h l covers [] (Some l.active) l.levels recorded_before frozen_entries (record {
      runs = covers.newer_above.runs;
      active_frozen = λ r older there. absurd (none_in r there);
      active_files = λ r older there. absurd (none_in r there);
      frozen_files = covers.newer_above.active_files;
      active_buffer = λ entry there. absurd (none_in (Written entry) there);
      frozen_buffer = covers.newer_above.active_buffer;
    }) covers.erases_covered.swept covers.erases_covered.unswept,
    record { count = counted.count; places = λ r is. counted.places r (recorded_before r is) },
  )
