-- A move of files keeps what a layout stands for.
use Rattle.std.proofs.Common.{◌≡◌, ◌⊎◌, inl, inr, ℕ, ◌<◌, Bool, IsTrue, List, ◌++◌, flat_map, AllPairs, Contains, refl, sym, ◌∙◌, subst, arith, ap, append_assoc}
use Rattle.lethe_cover.proofs.Common.{History, Layout, File, Written, buffer_of, frozen_records, runs_of, files_of, IsRecorded, InFiles, IsFiled, InBuffer, Holds, Shows, IsOver, IsNewerAbove, Covers, Entry, Pending, shown_held, buffer_recorded, files_in, Move, runs_before, IsMove, Moves, IsReplaced, IsCounted, ⊎_elim, ⊎_map}
use Rattle.lethe_cover.proofs.Bridge.{entries_cover, parts_cover}
use Rattle.lethe_cover.proofs.FilesInRuns.{in_more, refiled, files_left, files_right, files_cases, runs_over, runs_append, runs_file, file_runs}
use Rattle.lethe_cover.proofs.Lists.{Pairs, pairs_from, pairs_parts, pairs_to}
use Rattle.lethe_cover.proofs.Replaced.{replaced_cover}

-- each of these entries has the key and the place of one of those
abbrev IsDrawn : (Entry → Type 0) → (Entry → Type 0) → Type 0
IsDrawn these those = (entry : Entry) → these entry → (from : Entry) × those from × (from.key ≡ entry.key) × (from.seq ≡ entry.seq)

-- a file of two stretches of runs is in what becomes of these, or is one of the others
joined : (a b c d : List (List File)) (others : List File) → ((file : File) → Contains (files_in a) file → Contains (files_in c) file ⊎ Contains others file)
    → ((file : File) → Contains (files_in b) file → Contains (files_in d) file ⊎ Contains others file) → (file : File) → Contains (files_in (a ++ b)) file → Contains (files_in (c ++ d)) file ⊎ Contains others file
joined a b c d others first second file there = grind (arith, λ (t : Contains (files_in (a ++ b)) file). files_cases a b file t, first file, second file, files_left c d file, files_right c d file)

-- files that come of these or of what is made of some of them have such entries
drawn_by : (now before made taken : List File) → ((file : File) → Contains now file → Contains before file ⊎ Contains made file) → ((file : File) → Contains taken file → Contains before file)
    → IsDrawn (InFiles made) (InFiles taken) → IsDrawn (InFiles now) (InFiles before)
drawn_by now before made taken comes among source entry is = grind (arith, comes is.file is.there, source entry, among)

-- the move alone, on runs that are in order
module _ (alone : Bool) (m : Move) (moves : IsMove alone m) where
  abbrev middle : List (List File)
  middle = m.here ++ m.next

  abbrev middle_then : List (List File)
  middle_then = m.here_then ++ m.next_then

  -- those two stand between those above and those below
  abbrev around : List (List File) → List (List File)
  around runs = m.above ++ (runs ++ m.below)

  taken_in : (file : File) → Contains m.taken file → Contains (files_in middle) file
  taken_in file there = ⊎_elim (files_left m.here m.next file) (files_right m.here m.next file) (moves.taken_from file there)

  taken_rest : (file : File) → Contains m.taken file → Contains (files_in (middle ++ m.below)) file
  taken_rest file there = files_left middle m.below file (taken_in file there)

  middle_comes : (file : File) → Contains (files_in middle_then) file → Contains (files_in middle) file ⊎ Contains m.made file
  middle_comes = joined m.here_then m.next_then m.here m.next m.made (λ file is. inl (moves.here_from file is)) moves.next_from

  rest_comes : (file : File) → Contains (files_in (middle_then ++ m.below)) file → Contains (files_in (middle ++ m.below)) file ⊎ Contains m.made file
  rest_comes = joined middle_then m.below middle m.below m.made middle_comes (λ file is. inl is)

  -- a file from before stays, or was taken
  file_stays : (file : File) → Contains (files_in (around middle)) file → Contains (files_in (around middle_then)) file ⊎ Contains m.taken file
  file_stays = joined m.above (middle ++ m.below) m.above (middle_then ++ m.below) m.taken (λ file is. inl is)
      (joined middle m.below middle_then m.below m.taken (joined m.here m.next m.here_then m.next_then m.taken moves.here_split moves.next_split) (λ file is. inl is))

  -- a file that is there then was there, or is made
  file_comes : (file : File) → Contains (files_in (around middle_then)) file → Contains (files_in (around middle)) file ⊎ Contains m.made file
  file_comes = joined m.above (middle_then ++ m.below) m.above (middle ++ m.below) m.made (λ file is. inl is) rest_comes

  in_around : (runs : List (List File)) (file : File) → Contains (files_in runs) file → Contains (files_in (around runs)) file
  in_around runs file there = files_right m.above (runs ++ m.below) file (files_left runs m.below file there)

  module _ (falls : Pairs IsOver (m.above ++ ((m.here ++ m.next) ++ m.below))) where
    above_over : IsOver (files_in m.above) (files_in (middle ++ m.below))
    above_over = runs_over m.above (middle ++ m.below) falls

    below_falls : Pairs IsOver (middle ++ m.below)
    below_falls = (pairs_parts IsOver m.above (middle ++ m.below) falls).1

    here_over : IsOver (files_in m.here) (files_in m.next)
    here_over = runs_over m.here m.next (pairs_parts IsOver middle m.below below_falls).0

    here_newer : (entry input : Entry) → InFiles (files_in m.here_then) entry → InFiles m.taken input → entry.key ≡ input.key → input.seq < entry.seq
    here_newer entry input is taken same = ⊎_elim (λ here. absurd (moves.here_apart is.file taken.file is.there taken.there here entry input is.spelled taken.spelled same))
        (λ next. here_over entry input (in_more is moves.here_from) (refiled taken next) same) (moves.taken_from taken.file taken.there)

    -- where the output is alone, what stays of a key of a taken file is newer
    stays_newer : IsTrue alone → (entry input : Entry) (now : InFiles (files_in (around middle_then)) entry) → Contains (files_in (runs_before m)) now.file → InFiles m.taken input → entry.key ≡ input.key → input.seq < entry.seq
    stays_newer lone entry input now was taken same = ⊎_elim (λ above. above_over entry input (refiled now above) (in_more taken taken_rest) same)
        (λ rest. ⊎_elim (λ inside. ⊎_elim (λ here. here_newer entry input (refiled now here) taken same) in_next (files_cases m.here_then m.next_then now.file inside))
        (λ below. absurd (moves.alone_apart lone now.file taken.file below taken.there entry input now.spelled taken.spelled same)) (files_cases middle_then m.below now.file rest))
        (files_cases m.above (middle_then ++ m.below) now.file now.there)
      where
        in_next : Contains (files_in m.next_then) now.file → input.seq < entry.seq
        in_next next = ⊎_elim (λ old. absurd (moves.next_apart now.file taken.file next old taken.there entry input now.spelled taken.spelled same)) (λ made. absurd (moves.made_new now.file made was)) (moves.next_from now.file next)

    module _ (source : IsDrawn (InFiles m.made) (InFiles m.taken)) where
      here_over_then : IsOver (files_in m.here_then) (files_in m.next_then)
      here_over_then entry older above below same =
          grind (arith, moves.next_from below.file below.there, here_over entry older (in_more above moves.here_from), source older, λ (input : Entry). here_newer entry input above)

      middle_over_then : IsOver (files_in middle_then) (files_in m.below)
      middle_over_then entry older above below same =
          let from = drawn_by (files_in middle_then) (files_in middle) m.made m.taken middle_comes taken_in source entry above in
          omega (arith, runs_over middle m.below below_falls from.0 older from.1 below (from.2 ∙ same), from.3)

      above_over_then : IsOver (files_in m.above) (files_in (middle_then ++ m.below))
      above_over_then entry older above below same =
          let from = drawn_by (files_in (middle_then ++ m.below)) (files_in (middle ++ m.below)) m.made m.taken rest_comes taken_rest source older below in
          omega (arith, above_over entry from.0 above from.1 (same ∙ sym from.2), from.3)

      falls_then : Pairs IsOver (around middle_then)
      falls_then = runs_append m.above (middle_then ++ m.below) (pairs_parts IsOver m.above (middle ++ m.below) falls).0
          (runs_append middle_then m.below
          (runs_append m.here_then m.next_then (pairs_from IsOver m.here_then moves.here_order) (pairs_from IsOver m.next_then moves.next_order) here_over_then)
          (pairs_parts IsOver middle m.below below_falls).1 middle_over_then) above_over_then

-- the move of a layout's files
module _ (threshold : ℕ) (h : History) (l : Layout) (covers : Covers threshold h l) (counted : IsCounted h l) (levels : List (List File)) (alone : Bool) (applied : List Pending) (swept : ℕ) (m : Move)
    (moves : Moves threshold h l levels alone applied swept m)
  where
    abbrev then : Layout
    then = record l { levels = levels }

    before : runs_of l.levels ≡ m.above ++ ((m.here ++ m.next) ++ m.below)
    before = moves.before ∙ ap (λ runs. m.above ++ runs) (sym (append_assoc m.here m.next m.below))

    afterwards : runs_of levels ≡ m.above ++ ((m.here_then ++ m.next_then) ++ m.below)
    afterwards = moves.afterwards ∙ ap (λ runs. m.above ++ runs) (sym (append_assoc m.here_then m.next_then m.below))

    -- the files of some levels and those of their runs, told otherwise
    to_runs : (levels : List (List File)) {runs : List (List File)} → runs_of levels ≡ runs → (file : File) → Contains (flat_map (λ files. files) levels) file → Contains (files_in runs) file
    to_runs levels is file there = subst (λ runs. Contains (files_in runs) file) is (file_runs levels file there)

    from_runs : (levels : List (List File)) {runs : List (List File)} → runs_of levels ≡ runs → (file : File) → Contains (files_in runs) file → Contains (flat_map (λ files. files) levels) file
    from_runs levels is file there = runs_file levels file (subst (λ runs. Contains (files_in runs) file) (sym is) there)

    falls : Pairs IsOver (m.above ++ ((m.here ++ m.next) ++ m.below))
    falls = subst (Pairs IsOver) before (pairs_from IsOver (runs_of l.levels) covers.newer_above.runs)

    taken_there : (file : File) → Contains m.taken file → Contains (files_of l) file
    taken_there file there = from_runs l.levels before file (in_around alone m moves.is (m.here ++ m.next) file (taken_in alone m moves.is file there))

    taken_filed : (entry : Entry) → InFiles m.taken entry → IsFiled l entry
    taken_filed entry is = in_more is taken_there

    comes : (file : File) → Contains (files_of then) file → Contains (files_of l) file ⊎ Contains m.made file
    comes file there = ⊎_map (from_runs l.levels before file) (λ is. is) (file_comes alone m moves.is file (to_runs levels afterwards file there))

    stays : (file : File) → Contains (files_of l) file → Contains (files_of then) file ⊎ Contains m.taken file
    stays file there = ⊎_map (from_runs levels afterwards file) (λ is. is) (file_stays alone m moves.is file (to_runs l.levels before file there))

    made_then : (file : File) → Contains m.made file → Contains (files_of then) file
    made_then file there = from_runs levels afterwards file (in_around alone m moves.is (m.here_then ++ m.next_then) file (files_right m.here_then m.next_then file (moves.is.made_there file there)))

    -- what stays: the segments, and the files that were there
    abbrev HoldsRest : Entry → ℕ → Type 0
    HoldsRest entry upto = (IsRecorded l (Written entry) × (upto ≡ 0)) ⊎ ((filed : IsFiled then entry) × (upto ≡ filed.file.swept) × Contains (files_of l) filed.file)

    abbrev ShowsRest : Entry → Type 0
    ShowsRest entry = (InBuffer (buffer_of l.active) entry ⊎ InBuffer (buffer_of (frozen_records l)) entry) ⊎ ((filed : IsFiled then entry) × Contains (files_of l) filed.file)

    rest_is_held : (entry : Entry) → ShowsRest entry → (upto : ℕ) × HoldsRest entry upto
    rest_is_held entry (inl (inl active)) = (0, inl (inl (buffer_recorded l.active entry active), refl))
    rest_is_held entry (inl (inr frozen)) = (0, inl (inr (buffer_recorded (frozen_records l) entry frozen), refl))
    rest_is_held entry (inr filed) = (filed.0.file.swept, inr (filed.0, refl, filed.1))

    clear : IsTrue alone → (entry input : Entry) (upto : ℕ) → HoldsRest entry upto → InFiles m.taken input → entry.key ≡ input.key → input.seq < entry.seq
    clear lone entry input upto (inl (inl active, at)) taken same = covers.newer_above.active_files (Written entry) input active (taken_filed input taken)
    clear lone entry input upto (inl (inr frozen, at)) taken same = covers.newer_above.frozen_files (Written entry) input frozen (taken_filed input taken)
    clear lone entry input upto (inr filed) taken same =
        stays_newer alone m moves.is falls lone entry input (in_more filed.0 (to_runs levels afterwards)) (to_runs l.levels moves.before filed.0.file filed.2) taken same

    move_replaces : IsReplaced (IsTrue alone) (InFiles m.taken) (InFiles m.made) swept (Holds l) (Shows l) HoldsRest ShowsRest (Holds then) (Shows then)
    move_replaces = record {
      inputs_shown = λ entry taken. inr (taken_filed entry taken);
      rest_held = λ entry upto. ⊎_map (λ is. is) (λ filed. (refiled filed.0 filed.2, filed.1));
      rest_shown = λ entry. ⊎_map (λ is. is) (λ filed. refiled filed.0 filed.1);
      rest_is_held = rest_is_held;
      split = λ entry. ⊎_elim (λ buffered. inl (inl buffered)) (λ filed. ⊎_map (λ there. inr (refiled filed there, filed.there)) (refiled filed) (stays filed.file filed.there));
      stays = λ entry. ⊎_map (λ is. is) (λ filed. filed.0);
      comes = λ entry made. inr (in_more made made_then);
      only = λ entry. ⊎_elim (λ buffered. inl (inl buffered)) (λ filed. ⊎_map (λ old. inr (filed, old)) (refiled filed) (comes filed.file filed.there));
      only_held = λ entry upto. ⊎_elim (λ recorded. inl (inl recorded))
          (λ filed. ⊎_map (λ old. inr (filed.0, filed.1, old)) (λ made. (refiled filed.0 made, filed.1 ∙ moves.made_swept filed.0.file made)) (comes filed.0.file filed.0.there));
      is_held = shown_held then;
      clear = clear;
    }

    source : IsDrawn (InFiles m.made) (InFiles m.taken)
    source entry made = let from = moves.outcome.source entry made in (from.input, from.newest.shown, from.same, from.place)

    -- an entry of the files then has the place of one that was filed
    older : IsDrawn (IsFiled then) (IsFiled l)
    older = drawn_by (files_of then) (files_of l) m.made m.taken comes taken_there source

    newer_then : IsNewerAbove then
    newer_then = record {
      runs = subst (AllPairs IsOver) (sym afterwards) (pairs_to IsOver (m.above ++ ((m.here_then ++ m.next_then) ++ m.below)) (falls_then alone m moves.is falls source));
      active_frozen = covers.newer_above.active_frozen;
      active_files = λ r entry is filed. let from = older entry filed in omega (arith, covers.newer_above.active_files r from.0 is from.1, from.3);
      frozen_files = λ r entry is filed. let from = older entry filed in omega (arith, covers.newer_above.frozen_files r from.0 is from.1, from.3);
      active_buffer = covers.newer_above.active_buffer;
      frozen_buffer = covers.newer_above.frozen_buffer;
    }

    pub move_covers : Covers threshold h then × IsCounted h then
    move_covers = (
      parts_cover threshold h l covers l.active l.frozen levels (λ r is. is)
          (replaced_cover threshold h l.clock l.pending applied (IsTrue alone) (InFiles m.taken) (InFiles m.made) swept (Holds l) (Shows l) HoldsRest ShowsRest (Holds then) (Shows then)
          (entries_cover threshold h l covers) moves.outcome moves.applies move_replaces)
          newer_then
          (λ file there. ⊎_elim (covers.erases_covered.swept file) (λ made. omega (arith, moves.made_swept file made, moves.upto)) (comes file there))
          (λ file erase entry there among unswept spelled. ⊎_elim (λ old. covers.erases_covered.unswept file erase entry old among unswept spelled)
          (λ made. let from = source entry (record { file = file; there = made; spelled = spelled }) in omega (arith, moves.made_swept file made, moves.low from.0 from.1, from.3, unswept)) (comes file there)),
      record { count = counted.count; places = counted.places },
    )
