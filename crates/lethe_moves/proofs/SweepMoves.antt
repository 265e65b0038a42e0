-- A sweep keeps the history that a layout stands for, and the order of its files.
use Rattle.std.proofs.Common.{◌≡◌, ◌≢◌, ◌⊎◌, inl, inr, ℕ, ◌+◌, ◌<◌, ◌≤◌, Bool, IsTrue, All, List, [], ◌∷◌, ◌++◌, append_assoc, Contains, Option, Some, None, refl, sym, ap, ◌∙◌, subst, arith}
use Rattle.std.proofs.lemmas.List.{append-nil}
use Rattle.std.specs.Option.{IfSome}
use Rattle.lethe_cover.specs.Sweeps.{swept_of}
use Rattle.lethe_cover.proofs.Grown.{done_within}
use Rattle.lethe_cover.proofs.Moved.{move_covers}
use Rattle.lethe_cover.proofs.Sweeping.{swept_outcome}
use Rattle.lethe_moves.specs.Sweeps.{Sweep, SweepsFile, below_of, levels_before, levels_then, made_files}
use Rattle.lethe_moves.proofs.Common.{IsAccepted, Erase, ⊎_elim, flat_map-append, map-append, All-contains, Contains-append_cases, Contains-append_left, Contains-append_right, cons_option, Covers, Holds, InFiles, History, File, Layout, entries_of, files_of, runs_of, IsOver, Entry, Pending, none_in, first_is, IsApart, IsMove, Move, files_in, IsApplied, IsOutcome, IsCounted, files_right, files_runs, files_singles, singles, IsClearOf, IsTiled, IsWithin, keys_of, IsBelow, Follows}
use Rattle.lethe_moves.proofs.Apart.{apart_back, around_apart, clear_apart, only_file}
use Rattle.lethe_moves.proofs.Bare.{IsPlain, bare_each, bare_from}
use Rattle.lethe_moves.proofs.KeyOrder.{less_upto, upto_less}
use Rattle.lethe_moves.proofs.Orders.{AreOrdered, IsOther, last_behind, last_of, order_from, order_then, ordered_with, rise_at}
use Rattle.lethe_moves.proofs.Outputs.{above_old}
use Rattle.lethe_cover.proofs.Lists.{Pairs, in_middle, in_rest, only_in, pairs_map, pairs_parts, pairs_to, spliced}
use Rattle.lethe_moves.proofs.Shifts.{runs_above, shift_moves}
use Rattle.lethe_moves.proofs.Tiled.{file_once}

one_place : (h : History) (a b : Pending) → IsAccepted h a → IsAccepted h b → a.seq ≡ b.seq → a ≡ b
one_place h a b is it same = grind (arith, is.done, it.done, is.timed, it.timed)

kept_alone : (alone : Bool) (erase : Pending) (entry output : Entry) → IsTrue alone → swept_of alone erase entry ≡ Some output → entry ≡ output
kept_alone alone erase entry output lone is = grind arith

module _ (threshold : ℕ) (h : History) (l : Layout) (follows : Follows threshold h l) (erase : Pending) (s : Sweep) (sweeps : SweepsFile h l erase s) where
  abbrev made : List File
  made = made_files s

  abbrev level : List File
  level = s.before ++ s.file ∷ s.behind

  abbrev level_then : List File
  level_then = s.before ++ (made ++ s.behind)

  order : AreOrdered (levels_before s)
  order = subst AreOrdered sweeps.levels (order_from l follows.ordered)

  in_level : (file : File) → Contains level file → Contains (files_in (levels_before s)) file
  in_level file there = files_right s.above (level ∷ s.deeper) file (Contains-append_left level (files_in s.deeper) file there)

  in_deeper : (file : File) → Contains (files_in s.deeper) file → Contains (files_in (levels_before s)) file
  in_deeper file there = files_right s.above (level ∷ s.deeper) file (Contains-append_right level (files_in s.deeper) file there)

  file_there : Contains level s.file
  file_there = in_middle s.before (s.file ∷ []) s.behind s.file (first_is s.file [] s.file refl)

  filed : Contains (files_of l) s.file
  filed = subst (λ levels. Contains (files_in levels) s.file) (sym sweeps.levels) (in_level s.file file_there)

  file_tiled : IsTiled s.file
  file_tiled = order.tiled s.file (in_level s.file file_there)

  newer : (file other : File) → Contains made file → Contains (files_in (levels_before s)) other → other.no < file.no
  newer file other there was = above_old (files_of l) made sweeps.new file other there (subst (λ levels. Contains (files_in levels) other) (sym sweeps.levels) was)

  -- what is made is at most one file
  few : (R : File → File → Type 0) (o : Option File) → Pairs R (cons_option o [])
  few R None = tt
  few R (Some file) = ((λ other none. absurd (none_in other none)), tt)

  made_told : (P : File → Type 0) (o : Option File) → IfSome o P → (file : File) → Contains (cons_option o []) file → P file
  made_told P None told file none = absurd (none_in file none)
  made_told P (Some one) told file there = subst P (only_in one file there) told

  outcome : IsOutcome (erase ∷ []) (IsTrue sweeps.alone) (InFiles (s.file ∷ [])) (InFiles made)
  outcome = swept_outcome erase sweeps.alone (s.file ∷ []) made (record {
    once = λ entry other left right same. file_once s.file file_tiled entry other (only_file s.file entry left) (only_file s.file other right) same;
    from = λ output there. let from = sweeps.from output there in (from.0, record { file = s.file; there = first_is s.file [] s.file refl; spelled = from.1 }, from.2);
    kept = λ entry output there. sweeps.kept entry output (only_file s.file entry there);
  })

  accepted : IsAccepted h erase
  accepted = follows.covers.places.erases erase (inl sweeps.pending)

  applies : IsApplied threshold h l.clock (Holds l) l.pending (erase ∷ []) (InFiles (s.file ∷ [])) erase.seq
  applies = record {
    complete = λ other input among upto is. ⊎_elim
        (λ before. inr (s.file.swept, inr (record { file = s.file; there = filed; spelled = only_file s.file input is }, refl), before))
        (λ behind. let least = sweeps.oldest other among behind in inl (first_is erase [] other (one_place h erase other accepted (follows.covers.places.erases other (inl among)) (omega arith))))
        (cases other.seq s.file.swept);
    accepted = λ other there. subst (IsAccepted h) (only_in erase other there) accepted;
    fresh = λ other there. subst (λ erase. l.clock < erase.time + threshold) (only_in erase other there) (follows.covers.times_fresh.erases erase (inl sweeps.pending)).fresh;
    sound = λ other input dkey value there is put hit. inl (subst (Contains l.pending) (only_in erase other there) sweeps.pending);
  }
    where
      cases : (a b : ℕ) → (a ≤ b) ⊎ (b < a)
      cases a b = grind arith

  abbrev moved : List (List File) → List (List File) → List (List File) → List (List File) → List (List File) → Move
  moved above here next next_then below = record { above = above; here = here; next = next; below = below; here_then = []; next_then = next_then; taken = s.file ∷ []; made = made }

  abbrev IsCovered : Type 0
  IsCovered = Covers threshold h (record l { levels = levels_then s }) × IsCounted h (record l { levels = levels_then s })

  covers_by : (above here next next_then below : List (List File)) → IsMove sweeps.alone (moved above here next next_then below)
      → runs_of (levels_before s) ≡ above ++ (here ++ (next ++ below)) → runs_of (levels_then s) ≡ above ++ (next_then ++ below) → IsCovered
  covers_by above here next next_then below is before afterwards =
      move_covers threshold h l follows.covers follows.counted (levels_then s) sweeps.alone (erase ∷ []) erase.seq (moved above here next next_then below) (record {
        is = is;
        before = ap runs_of sweeps.levels ∙ before;
        afterwards = afterwards;
        outcome = outcome;
        applies = applies;
        made_swept = made_told (λ file. file.swept ≡ erase.seq) s.made sweeps.swept;
        upto = done_within h erase.seq (Erase erase.range) accepted.done;
        low = λ entry is. let lower = follows.covers.erases_covered.unswept s.file erase entry filed sweeps.pending sweeps.due (only_file s.file entry is) in omega arith;
      })

  not_old : (runs : List (List File)) → runs_of (levels_before s) ≡ runs → (file : File) → Contains made file → Contains (files_in runs) file → ⊥
  not_old runs is file there was = let below = newer file file there (subst (λ files. Contains files file) (ap files_in (sym is) ∙ files_runs (levels_before s)) was) in omega arith

  clear : IsTrue sweeps.alone → (above : List (List File)) → s.above ≡ above → (file other : File) → Contains (below_of above s.behind s.deeper) file → Contains (files_in (levels_before s)) file → Contains (s.file ∷ []) other → IsApart file other
  clear lone above is file other below there taken = subst (IsApart file) (only_in s.file other taken) (apart_back s.file file (clear_apart s.file file file_tiled (order.tiled file there)
      (All-contains (IsClearOf (keys_of s.file)) (below_of above s.behind s.deeper) file (subst (λ above. All (IsClearOf (keys_of s.file)) (below_of above s.behind s.deeper)) is (sweeps.clear lone)) below)))

  covers_then : (above : List (List File)) → s.above ≡ above → IsCovered
  covers_then [] is = covers_by (singles s.before) (singles (s.file ∷ [])) [] (singles made) (singles s.behind ++ s.deeper)
      (shift_moves sweeps.alone (record { above = []; newer = []; sources = s.file ∷ []; older = []; lower = []; met = []; higher = []; deeper = []; made = made })
      (singles s.before) (singles (s.file ∷ [])) [] [] (singles made) (singles s.behind ++ s.deeper) (record {
        here_files = refl;
        here_left = refl;
        next_files = refl;
        next_left = files_singles made ∙ sym (append-nil made);
        new = not_old (singles s.before ++ (singles (s.file ∷ []) ++ (singles s.behind ++ s.deeper))) before;
        once = λ file there none. none_in file none;
        here_apart = λ file other. ⊎_elim (λ none. absurd (none_in file none)) (λ none. absurd (none_in file none));
        next_apart = λ file other. ⊎_elim (λ none. absurd (none_in file none)) (λ none. absurd (none_in file none));
        below_apart = λ lone file other there. let below = subst (λ files. Contains files file) (flat_map-append (λ files. files) (singles s.behind) s.deeper ∙ ap (λ files. files ++ files_in s.deeper) (files_singles s.behind)) there in
            clear lone [] is file other below
            (⊎_elim (λ behind. in_level file (Contains-append_right s.before (s.file ∷ s.behind) file (in_rest s.file s.behind file behind))) (in_deeper file) (Contains-append_cases s.behind (files_in s.deeper) file below));
        here_order = λ i j d before within. absurd (omega arith);
        next_order = pairs_to IsOver (singles made) (pairs_map IsOver (λ file. file ∷ []) made (few (λ file other. IsOver (file ∷ []) (other ∷ [])) s.made));
      })) before (ap (λ above. runs_of (above ++ (level_then ∷ s.deeper))) is ∙ zero_runs made)
    where
      zero_runs : (files : List File) → runs_of ((s.before ++ (files ++ s.behind)) ∷ s.deeper) ≡ singles s.before ++ (singles files ++ (singles s.behind ++ s.deeper))
      zero_runs files = simp (map-append, append_assoc)

      before : runs_of (levels_before s) ≡ singles s.before ++ (singles (s.file ∷ []) ++ (singles s.behind ++ s.deeper))
      before = ap (λ above. runs_of (above ++ (level ∷ s.deeper))) is ∙ zero_runs (s.file ∷ [])
  covers_then (first ∷ above) is = covers_by (runs_of s.above) [] (level ∷ []) (level_then ∷ []) s.deeper
      (shift_moves sweeps.alone (record { above = []; newer = []; sources = []; older = []; lower = s.before; met = s.file ∷ []; higher = s.behind; deeper = []; made = made })
      (runs_of s.above) [] [] (level ∷ []) (level_then ∷ []) s.deeper (record {
        here_files = refl;
        here_left = refl;
        next_files = append-nil level;
        next_left = append-nil level_then;
        new = not_old (runs_of s.above ++ (level ∷ s.deeper)) (runs_above s.above (level ∷ s.deeper) some);
        once = λ file none. absurd (none_in file none);
        here_apart = λ file other. ⊎_elim (λ none. absurd (none_in file none)) (λ none. absurd (none_in file none));
        next_apart = around_apart s.before (s.file ∷ []) s.behind (λ file there. order.tiled file (in_level file there)) (rise_at s.above level s.deeper some order.below);
        below_apart = λ lone file other there. clear lone (first ∷ above) is file other there (in_deeper file there);
        here_order = λ i j d before within. absurd (omega arith);
        next_order = λ i j d before within. absurd (omega arith);
      })) (runs_above s.above (level ∷ s.deeper) some) (runs_above s.above (level_then ∷ s.deeper) some)
    where
      some : s.above ≢ []
      some none = let clash : first ∷ above ≡ [] = sym is ∙ none in cc

  order_swept : AreOrdered (levels_then s)
  order_swept = order_then s.above s.before (s.file ∷ []) s.behind s.deeper order made (record {
    tiled = λ file there. All-contains IsTiled made file sweeps.tiled there;
    numbers = few IsOther s.made;
    new = newer;
    below = λ some.
        let rises = rise_at s.above level s.deeper some order.below in
        let parts = pairs_parts IsBelow s.before (s.file ∷ s.behind) rises in
        let inside = made_told (λ file. IsWithin (keys_of s.file).lo (keys_of s.file).hi (keys_of file).lo × IsWithin (keys_of s.file).lo (keys_of s.file).hi (keys_of file).hi) s.made sweeps.inside in
        spliced IsBelow s.before (s.file ∷ []) made s.behind rises (few IsBelow s.made)
        (λ file new left there. less_upto (keys_of file).hi (keys_of s.file).lo (keys_of new).lo (parts.2 file s.file left (first_is s.file s.behind s.file refl)) (inside new there).0.0)
        (λ new file there right. upto_less (keys_of new).hi (keys_of s.file).hi (keys_of file).lo (inside new there).1.1 (parts.1.0 file right));
    bare = λ is file there. bare_from (entries_of file) (λ entry spelled.
        let from = sweeps.from entry (record { file = file; there = there; spelled = spelled }) in
        let same = kept_alone sweeps.alone erase from.0 entry (sweeps.bottom is) from.2 in
        let last : last_of (levels_before s) ≡ level = last_behind s.above level s.deeper ∙ ap (λ deeper. last_of (level ∷ deeper)) is in
        subst IsPlain same (bare_each (entries_of s.file) (order.bare s.file (subst (λ files. Contains files s.file) (sym last) file_there)) from.0 from.1));
  })

  pub sweep_follows : Follows threshold h (record l { levels = levels_then s })
  sweep_follows = let covers = covers_then s.above refl in record { covers = covers.0; counted = covers.1; clock = follows.clock; ordered = ordered_with l (levels_then s) follows.ordered order_swept }
