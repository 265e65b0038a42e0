-- Where nothing is due, nothing that is remembered is a threshold old, and no put that is held is overdue.
use Rattle.std.proofs.Common.{◌≡◌, ◌⊎◌, inl, inr, ℕ, ◌+◌, ◌-◌, ◌<◌, ◌≤◌, List, [], ◌∷◌, map, flat_map, length, Contains, Some, None, IsSomeAnd, refl, sym, ◌∙◌, subst, arith}
use Rattle.lethe_cover.proofs.Common.{⊎_elim, ⊎_map, cases_lt, Contains-append_left, Contains-append_right, Covers, IsFresh, AreFresh, Holds, Tells, History, File, Layout, Written, Erasing, entries_of, IsPut, Entry, none_in, first_or_rest}
use Rattle.std.proofs.lemmas.List.Elements.{All-contains, Contains-append_cases}
use Rattle.lethe_base.specs.Causes.{IsOverdue}
use Rattle.lethe_base.specs.Configuration.{IsConfig}
use Rattle.lethe_base.specs.Shapes.{all_files, facts_from, facts_of, oldest_of, shape_of}
use Rattle.lethe_base.specs.declared.config.Fields.{Fields}
use Rattle.lethe_base.specs.declared.shape.FileFacts.{FileFacts}
use Rattle.lethe_base.proofs.Overdue.{none_overdue}
use Rattle.lethe_cover.proofs.Bridge.{same_order}
use Rattle.lethe_cover.proofs.Lists.{in_map}
use Rattle.lethe_cover.proofs.Merging.{IsBy}
use Rattle.lethe_fade.specs.LevelTimes.{level_deadline}
use Rattle.lethe_fade.proofs.Powers.{deadlines_rise}
use Rattle.lethe_moves.specs.Due.{HasNothingDue, IsExpired}
use Rattle.lethe_moves.specs.Reaches.{Follows}
use Rattle.lethe_moves.proofs.Bare.{bare_each}
use Rattle.lethe_moves.proofs.Orders.{last_of, order_from}

-- the least time of some entries is at most that of each
oldest_by : (entries : List Entry) (entry : Entry) (time : ℕ) → Contains entries entry → entry.since ≡ Some time → IsBy (oldest_of entries) time
oldest_by [] entry time there has = absurd (none_in entry there)
oldest_by (first ∷ entries) entry time there has = ⊎_elim (λ (same : first ≡ entry). grind arith) (λ rest. let more = oldest_by entries entry time rest has in grind arith) (first_or_rest first entries entry there)

-- a file of levels, the first of which has that number, has facts among those above the last, or is in the last
file_level : (first : ℕ) (levels : List (List File)) (file : File) → Contains (flat_map (λ files. files) levels) file
    → ((level : ℕ) × (level + 1 < first + length levels) × Contains (flat_map (λ files. files) (facts_from first levels)) (facts_of level file)) ⊎ Contains (last_of levels) file
file_level first [] file there = absurd (none_in file there)
file_level first (files ∷ []) file there = inr (⊎_elim (λ here. here) (λ none. absurd (none_in file none)) (Contains-append_cases files [] file there))
file_level first (files ∷ (next ∷ deeper)) file there =
    let behind : List FileFacts = flat_map (λ files. files) (facts_from (first + 1) (next ∷ deeper)) in
    ⊎_elim (λ here. inl (first, omega arith, Contains-append_left (map (facts_of first) files) behind (facts_of first file) (in_map (facts_of first) files file here)))
    (λ below. ⊎_map (λ found. (found.0, omega (arith, found.1), Contains-append_right (map (facts_of first) files) behind (facts_of found.0 file) found.2)) (λ last. last)
    (file_level (first + 1) (next ∷ deeper) file below)) (Contains-append_cases files (flat_map (λ files. files) (next ∷ deeper)) file there)

module _ (fields : Fields) (config : IsConfig fields) (h : History) (l : Layout) (follows : Follows fields.threshold h l) (levels : length l.levels ≡ fields.levels + 1)
    (clock : ℕ) (due : HasNothingDue fields clock l)
  where
    -- what a file remembers above the last level isn't expired, and the last level remembers nothing
    file_fresh : (file : File) (entry : Entry) (since : ℕ) → Contains (flat_map (λ files. files) l.levels) file → Contains (entries_of file) entry → entry.since ≡ Some since
        → clock < since + fields.threshold
    file_fresh file entry since there spelled has = ⊎_elim
        (λ above. ⊎_elim (λ fresh. fresh) (λ late. absurd (kept above.0 (omega (arith, above.1)) above.2 late)) (cases_lt clock (since + fields.threshold)))
        (λ last. absurd (let clash : None ≡ Some since = sym (bare_each (entries_of file) ((order_from l follows.ordered).bare file last) entry spelled).1 ∙ has in cc))
        (file_level 0 l.levels file there)
      where
        kept : (level : ℕ) → level < fields.levels → Contains (all_files (shape_of l)) (facts_of level file) → since + fields.threshold ≤ clock → ⊥
        kept level above there late =
            let rises = deadlines_rise fields config in
            let upto : level_deadline fields level ≤ level_deadline fields (fields.levels - 1) = rises.rise level (fields.levels - 1) (omega arith) in
            let whole : level_deadline fields (fields.levels - 1) ≡ fields.threshold = rises.whole in
            let oldest = oldest_by (entries_of file) entry since spelled has in
            let least : oldest.least ≤ since = oldest.upto in
            All-contains (λ (file : FileFacts). file.level < fields.levels → IsExpired fields clock file → ⊥) (all_files (shape_of l)) (facts_of level file) due.files there above
            (subst (λ o. IsSomeAnd o (λ oldest. oldest + level_deadline fields level ≤ clock)) (sym oldest.is) (omega arith))

    pub due_fresh : AreFresh fields.threshold h clock (Holds l) (Tells l)
    due_fresh = record {
      entries = λ entry swept since held has. later since (follows.covers.times_fresh.entries entry swept since held has)
          (⊎_elim (λ recorded. due.records (Written entry) since recorded.0 has) (λ filed. file_fresh filed.0.file entry since filed.0.there filed.0.spelled has) held);
      erases = λ erase is. later erase.time (follows.covers.times_fresh.erases erase is) (⊎_elim (due.erases erase) (λ recorded. due.records (Erasing erase) erase.time recorded refl) is);
    }
      where
        later : (time : ℕ) → IsFresh fields.threshold h l.clock time → clock < time + fields.threshold → IsFresh fields.threshold h clock time
        later time is fresh = record { place = is.place; call = is.call; done = is.done; erasure = is.erasure; timed = is.timed; fresh = fresh }

    -- at that time the layout still stands for the history
    covers_then : Covers fields.threshold h (record l { clock = clock })
    covers_then = let covers = follows.covers in record {
      places = record { entries = covers.places.entries; erases = covers.places.erases };
      newer_above = same_order l clock l.count l.next l.certificate l.pending covers.newer_above;
      same_map = record { newest = covers.same_map.newest; absent = covers.same_map.absent };
      deletes_covered = covers.deletes_covered;
      erases_covered = record { pending = covers.erases_covered.pending; swept = covers.erases_covered.swept; unswept = covers.erases_covered.unswept };
      times_fresh = record { entries = due_fresh.entries; erases = due_fresh.erases };
    }

    pub due_overdue : (entry : Entry) (swept : ℕ) → Holds l entry swept → IsPut entry.body → IsOverdue fields.threshold h clock entry.seq → ⊥
    due_overdue = none_overdue fields.threshold h (record l { clock = clock }) covers_then
