-- A flush keeps what a layout stands for.
use Rattle.std.proofs.Common.{◌≡◌, ◌⊎◌, inl, inr, ℕ, Bool, IsTrue, List, [], length, Contains, None, sym, ◌∙◌, subst, arith}
use Rattle.std.proofs.lemmas.List.Elements.{All-contains, Contains-append_cases}
use Rattle.lethe_cover.specs.Flushes.{IsFlush, with_newest, flushed}
use Rattle.lethe_cover.proofs.Common.{⊎_elim, ⊎_map, Contains-append_left, Contains-append_right, History, Layout, File, Record, Written, buffer_of, frozen_records, runs_of, files_of, InFiles, IsRecorded, InBuffer, Holds, Shows, IsOver, IsNewerAbove, Covers, Erase, Entry, buffer_recorded, shown_held, none_in, files_in, IsReplaced, IsCounted}
use Rattle.lethe_cover.proofs.Bridge.{entries_cover, all_applied, parts_cover}
use Rattle.lethe_cover.proofs.FilesInRuns.{in_more, refiled, singles, files_singles, runs_file, runs_newest, files_newest, runs_append}
use Rattle.lethe_cover.proofs.Grown.{done_within}
use Rattle.lethe_cover.proofs.Lists.{Pairs, pairs_from, pairs_to}
use Rattle.lethe_cover.proofs.Replaced.{replaced_cover}

module _ (threshold : ℕ) (h : History) (l : Layout) (covers : Covers threshold h l) (counted : IsCounted h l) (alone : Bool) (made : List File) (flush : IsFlush h l alone made) where
  -- what stays: all but the frozen segment
  abbrev rest : Layout
  rest = record l { frozen = None }

  abbrev then : Layout
  then = flushed l made

  abbrev Inputs : Entry → Type 0
  Inputs = InBuffer (buffer_of (frozen_records l))

  -- the made files are among the levels', and the others stay
  file_cases : (file : File) → Contains (files_of then) file → Contains made file ⊎ Contains (files_of l) file
  file_cases file there = Contains-append_cases made (files_of l) file (subst (λ files. Contains files file) (files_newest made l.levels) there)

  file_then : (file : File) → Contains made file ⊎ Contains (files_of l) file → Contains (files_of then) file
  file_then file is = subst (λ files. Contains files file) (sym (files_newest made l.levels)) (⊎_elim (Contains-append_left made (files_of l) file) (Contains-append_right made (files_of l) file) is)

  swept : (file : File) → Contains made file → file.swept ≡ length h
  swept file there = All-contains (λ file. file.swept ≡ length h) made file flush.swept there

  rest_recorded : (r : Record) → IsRecorded rest r → Contains l.active r
  rest_recorded r = ⊎_elim (λ active. active) (λ none. absurd (none_in r none))

  flush_replaces : IsReplaced (IsTrue alone) Inputs (InFiles made) (length h) (Holds l) (Shows l) (Holds rest) (Shows rest) (Holds then) (Shows then)
  flush_replaces = record {
    inputs_shown = λ entry taken. inl (inr taken);
    rest_held = λ entry upto. ⊎_map (λ recorded. (inl (rest_recorded (Written entry) recorded.0), recorded.1)) (λ filed. filed);
    rest_shown = λ entry. ⊎_map (⊎_map (λ active. active) (λ none. absurd (none_in (Written entry) (buffer_recorded [] entry none)))) (λ filed. filed);
    rest_is_held = shown_held rest;
    split = λ entry. ⊎_elim (⊎_map (λ active. inl (inl active)) (λ taken. taken)) (λ filed. inl (inr filed));
    stays = λ entry. ⊎_map (λ buffered. buffered) (λ filed. in_more filed (λ file old. file_then file (inr old)));
    comes = λ entry out. inr (in_more out (λ file new. file_then file (inl new)));
    only = λ entry. ⊎_elim (λ buffered. inl (inl buffered)) (λ filed. ⊎_elim (λ new. inr (refiled filed new)) (λ old. inl (inr (refiled filed old))) (file_cases filed.file filed.there));
    only_held = λ entry upto. ⊎_elim (λ recorded. inl (inl recorded))
        (λ filed. ⊎_elim (λ new. inr (refiled filed.0 new, filed.1 ∙ swept filed.0.file new)) (λ old. inl (inr (refiled filed.0 old, filed.1))) (file_cases filed.0.file filed.0.there));
    is_held = shown_held then;
    clear = λ lone entry input upto held taken same. ⊎_elim
        (λ recorded. covers.newer_above.active_frozen (Written entry) (Written input) (rest_recorded (Written entry) recorded.0) (buffer_recorded (frozen_records l) input taken))
        (λ filed. absurd (flush.apart lone input entry taken filed.0 same)) held;
  }

  -- an output has the place of a record of the frozen segment
  source : (entry : Entry) → InFiles made entry → (input : Entry) × Contains (frozen_records l) (Written input) × (input.key ≡ entry.key) × (input.seq ≡ entry.seq)
  source entry out = let from = flush.outcome.source entry out in (from.input, buffer_recorded (frozen_records l) from.input from.newest.shown, from.same, from.place)

  made_over : IsOver (files_in (singles made)) (files_in (runs_of l.levels))
  made_over entry older above below same =
      let from = source entry (refiled above (subst (λ files. Contains files above.file) (files_singles made) above.there)) in
      omega (arith, covers.newer_above.frozen_files (Written from.0) older from.1 (in_more below (runs_file l.levels)), from.3)

  newer_then : IsNewerAbove then
  newer_then = record {
    runs = pairs_to IsOver (runs_of then.levels) (subst (Pairs IsOver) (sym (runs_newest made l.levels))
        (runs_append (singles made) (runs_of l.levels) (pairs_from IsOver (singles made) flush.order) (pairs_from IsOver (runs_of l.levels) covers.newer_above.runs) made_over));
    active_frozen = λ r older is none. absurd (none_in older none);
    active_files = λ r older is filed. ⊎_elim (λ new. let from = source older (refiled filed new) in omega (arith, covers.newer_above.active_frozen r (Written from.0) is from.1, from.3))
        (λ old. covers.newer_above.active_files r older is (refiled filed old)) (file_cases filed.file filed.there);
    frozen_files = λ r older none. absurd (none_in r none);
    active_buffer = covers.newer_above.active_buffer;
    frozen_buffer = λ entry none. absurd (none_in (Written entry) none);
  }

  pub flush_covers : Covers threshold h then × IsCounted h then
  flush_covers = (
    parts_cover threshold h l covers l.active None (with_newest made l.levels) (λ r is. inl (rest_recorded r is))
        (replaced_cover threshold h l.clock l.pending l.pending (IsTrue alone) Inputs (InFiles made) (length h) (Holds l) (Shows l) (Holds rest) (Shows rest) (Holds then) (Shows then)
        (entries_cover threshold h l covers) flush.outcome (all_applied threshold h l Inputs (length h) covers) flush_replaces)
        newer_then
        (λ file there. ⊎_elim (λ new. omega (arith, swept file new)) (covers.erases_covered.swept file) (file_cases file there))
        (λ file erase entry there among unswept spelled. ⊎_elim
        (λ new. absurd (omega (arith, swept file new, unswept, done_within h erase.seq (Erase erase.range) (covers.places.erases erase (inl among)).done)))
        (λ old. covers.erases_covered.unswept file erase entry old among unswept spelled) (file_cases file there)),
    record { count = counted.count; places = λ r is. counted.places r (inl (rest_recorded r is)) },
  )
