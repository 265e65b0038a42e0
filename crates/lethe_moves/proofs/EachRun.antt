-- Each run of a store ends in a layout that follows its history.
use Rattle.std.proofs.Common.{◌≡◌, inl, ℕ, ◌+◌, ◌<◌, ◌≤◌, Bool, List, [], ◌∷◌, ◌++◌, filter, length, AllPairs, get_or, Contains, Option, refl, sym, ap, ◌∙◌, arith}
use Rattle.lethe_cover.proofs.Common.{⊎_elim, Contains-push_cases, Covers, History, after, done, File, Layout, Record, Ends, Call, Done, Pending, after-push, none_in, IsCounted, with_done, accepted}
use Rattle.std.proofs.lemmas.List.{length-append, length-replicate}
use Rattle.std.proofs.lemmas.List.Elements.{Contains-get_or}
use Rattle.std.proofs.lemmas.List.Kept.{AllPairs-filter}
use Rattle.std.proofs.lemmas.List.Quantifiers.{all_pairs_push}
use Rattle.lethe_base.specs.Configuration.{IsConfig}
use Rattle.lethe_base.specs.Layout.{new_layout}
use Rattle.lethe_base.specs.declared.call.Call.TheVariants as call
use Rattle.lethe_base.specs.declared.config.Fields.{Fields}
use Rattle.lethe_base.proofs.Filters.{from_filter}
use Rattle.lethe_base.proofs.LayoutLaws.{no_file, new_covers, new_is_valid}
use Rattle.lethe_base.proofs.LeftErases.{fewer_erases}
use Rattle.lethe_base.proofs.Shorter.{shorter_covers}
use Rattle.lethe_cover.specs.Flushes.{with_newest}
use Rattle.lethe_cover.proofs.Bridge.{numbered_covers}
use Rattle.lethe_cover.proofs.Entered.{put_covers, delete_covers}
use Rattle.lethe_cover.proofs.Frozen.{freeze_covers}
use Rattle.lethe_cover.proofs.Grown.{done_within}
use Rattle.lethe_cover.proofs.Quiet.{tick_covers}
use Rattle.lethe_cover.proofs.Unentered.{blind_covers, erase_covers}
use Rattle.lethe_moves.specs.Reaches.{Follows, Reaches, New, Put, Delete, Blind, Erase, Tick, Freeze, Leave, Flush, Merge, Sweep, Number}
use Rattle.lethe_moves.proofs.Fresh.{due_fresh}
use Rattle.lethe_moves.proofs.Flushing.{flush_follows}
use Rattle.lethe_moves.proofs.MergeMoves.{merge_follows}
use Rattle.lethe_moves.proofs.SweepMoves.{sweep_follows}

-- the clock after one more done call
clock_more : (h : History) (caller : ℕ) (c : Call) → (after (with_done h caller c)).clock ≡ (done c (after h)).clock
clock_more h caller c = ap (λ s. s.clock) (after-push h (record { caller = caller; call = c; did = Done }))

-- the places of pending erases rise, their times don't fall, and none is past the clock
abbrev AreInOrder : ℕ → List Pending → Type 0
AreInOrder clock pending = AllPairs (λ erase later. erase.seq < later.seq) pending × AllPairs (λ erase later. erase.time ≤ later.time) pending
    × ((erase : Pending) → Contains pending erase → erase.time ≤ clock)

-- what is carried from step to step
record IsReached (fields : Fields) (h : History) (l : Layout) : Type 0 where
  follows : Follows fields.threshold h l
  levels : length l.levels ≡ fields.levels + 1
  order : AreInOrder l.clock l.pending

module _ (fields : Fields) (config : IsConfig fields) where
  new_reached : IsReached fields [] (new_layout fields.levels)
  new_reached =
      let levels : length (new_layout fields.levels).levels ≡ fields.levels + 1 = omega (arith, length-replicate fields.levels (let none : List File = [] in none)) in
      let shape = new_is_valid fields.levels in record {
        follows = record {
          covers = new_covers fields.threshold fields.levels;
          counted = record { count = refl; places = λ r is. absurd (⊎_elim (none_in r) (none_in r) is) };
          clock = refl;
          ordered = record { tiled = λ k d within. absurd (no_file fields.levels _ (Contains-get_or _ k d within)); shape = shape; deep = omega (arith, config.levels.0) };
        };
        levels = levels;
        order = (shape.places, shape.times, λ erase there. absurd (none_in erase there));
      }

  module _ (g : History) (m : Layout) (before : IsReached fields g m) where
    old : Follows fields.threshold g m
    old = before.follows

    -- a step that leaves the files
    unmoved : (h : History) (l : Layout) → l.clock ≡ (after h).clock → AreInOrder l.clock l.pending → Covers fields.threshold h (record l { levels = m.levels }) × IsCounted h (record l { levels = m.levels })
        → IsReached fields h (record l { levels = m.levels })
    unmoved h l clock order step = let ordered = old.ordered in let shape = ordered.shape in record {
      follows = record {
        covers = step.0;
        counted = step.1;
        clock = clock;
        ordered = record {
          tiled = ordered.tiled;
          shape = record { numbers = shape.numbers; ranges = shape.ranges; levels = shape.levels; deepest = shape.deepest; places = order.0; times = order.1 };
          deep = ordered.deep;
        };
      };
      levels = before.levels;
      order = order;
    }

    -- a call after which the clock stands as it did
    clock_kept : (caller : ℕ) (c : Call) → (done c (after g)).clock ≡ (after g).clock → m.clock ≡ (after (with_done g caller c)).clock
    clock_kept caller c same = old.clock ∙ sym (clock_more g caller c ∙ same)

    -- an erase has a place above those of the pending ones, and a time no less than theirs
    one_more : (range : Ends) → AreInOrder m.clock (m.pending ++ accepted g m range ∷ [])
    one_more range = (
      all_pairs_push (λ erase later. erase.seq < later.seq) m.pending new before.order.0 (λ k d within. below (get_or m.pending k d) (Contains-get_or m.pending k d within)),
      all_pairs_push (λ erase later. erase.time ≤ later.time) m.pending new before.order.1 (λ k d within. before.order.2 (get_or m.pending k d) (Contains-get_or m.pending k d within)),
      λ erase there. ⊎_elim (before.order.2 erase) (λ same. omega (arith, ap (λ e. e.time) same)) (Contains-push_cases m.pending new erase there),
    )
      where
        new : Pending
        new = accepted g m range

        below : (erase : Pending) → Contains m.pending erase → erase.seq < length g + 1
        below erase there = omega (arith, done_within g erase.seq (call.Erase erase.range) (old.covers.places.erases erase (inl there)).done)

    fewer : (stays : Pending → Bool) → AreInOrder m.clock (filter stays m.pending)
    fewer stays = (
      AllPairs-filter (λ erase later. erase.seq < later.seq) stays m.pending before.order.0,
      AllPairs-filter (λ erase later. erase.time ≤ later.time) stays m.pending before.order.1,
      λ erase there. before.order.2 erase (from_filter stays m.pending erase there).0,
    )

    -- a step that moves files between as many levels
    moved : (frozen : Option (List Record)) (levels : List (List File)) → Follows fields.threshold g (record m { frozen = frozen; levels = levels }) → length levels ≡ length m.levels
        → IsReached fields g (record m { frozen = frozen; levels = levels })
    moved frozen levels follows same = record { follows = follows; levels = same ∙ before.levels; order = before.order }

  as_many : (above below other : List (List File)) → length below ≡ length other → length (above ++ below) ≡ length (above ++ other)
  as_many above below other same = length-append above below ∙ ap (λ n. length above + n) same ∙ sym (length-append above other)

  newest_level : (made : List File) (levels : List (List File)) → 2 ≤ length levels → length (with_newest made levels) ≡ length levels
  newest_level made [] deep = absurd (omega arith)
  newest_level made (newest ∷ deeper) deep = refl

  some : 0 < fields.threshold
  some = omega (arith, config.threshold.0)

  reached : (h : History) (l : Layout) → Reaches fields h l → IsReached fields h l
  reached h l New = new_reached
  reached h l (Put g m caller key dkey value run) = let before = reached g m run in let old = before.follows in
      unmoved g m before h l (clock_kept g m before caller (call.Put key dkey value) refl) before.order (put_covers fields.threshold caller g m old.covers old.counted key dkey value)
  reached h l (Delete g m caller key run) = let before = reached g m run in let old = before.follows in
      unmoved g m before h l (clock_kept g m before caller (call.Delete key) refl) before.order (delete_covers fields.threshold caller g m old.covers old.counted key some old.clock)
  reached h l (Blind g m caller key none run) = let before = reached g m run in let old = before.follows in
      unmoved g m before h l (clock_kept g m before caller (call.Delete key) refl) before.order (blind_covers fields.threshold caller g m old.covers old.counted key none)
  reached h l (Erase g m caller range run) = let before = reached g m run in let old = before.follows in
      unmoved g m before h l (clock_kept g m before caller (call.Erase range) refl) (one_more g m before range) (erase_covers fields.threshold caller g m old.covers old.counted some old.clock range)
  reached h l (Tick g m caller to forward due run) = let before = reached g m run in let old = before.follows in
      unmoved g m before h l (sym (clock_more g caller (call.Tick to))) (before.order.0, before.order.1, λ erase there. omega (arith, before.order.2 erase there))
      (tick_covers fields.threshold caller g m old.covers old.counted to (due_fresh fields config g m old before.levels to due))
  reached h l (Freeze g m free run) = let before = reached g m run in let old = before.follows in
      unmoved g m before g l old.clock before.order (freeze_covers fields.threshold g m old.covers old.counted free)
  reached h l (Leave g m stays spent run) = let before = reached g m run in let old = before.follows in
      unmoved g m before g l old.clock (fewer g m before stays)
      (shorter_covers fields.threshold g m old.covers (filter stays m.pending) (fewer_erases m stays spent), record { count = old.counted.count; places = old.counted.places })
  reached h l (Flush g m made flush run) = let before = reached g m run in
      moved g m before l.frozen l.levels (flush_follows fields.threshold g m before.follows made flush) (newest_level made m.levels before.follows.ordered.deep)
  reached h l (Merge g m applied swept move is run) = let before = reached g m run in
      moved g m before m.frozen l.levels (merge_follows fields.threshold g m before.follows applied swept move is) (as_many move.above _ _ refl ∙ sym (ap length is.levels))
  reached h l (Sweep g m erase move is run) = let before = reached g m run in
      moved g m before m.frozen l.levels (sweep_follows fields.threshold g m before.follows erase move is) (as_many move.above _ _ refl ∙ sym (ap length is.levels))
  reached h l (Number g m next certificate run) = let before = reached g m run in let old = before.follows in
      unmoved g m before g l old.clock before.order (numbered_covers fields.threshold g m old.covers next certificate, record { count = old.counted.count; places = old.counted.places })

  pub each_run : (h : History) (l : Layout) → Reaches fields h l → Follows fields.threshold h l × (length l.levels ≡ fields.levels + 1)
  each_run h l run = let is = reached h l run in (is.follows, is.levels)
