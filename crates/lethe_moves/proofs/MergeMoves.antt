-- A merge keeps the history that a layout stands for, and the order of its files.
use Rattle.std.proofs.Common.{◌≡◌, ◌⊎◌, ℕ, ◌<◌, List, [], ◌∷◌, ◌++◌, append_assoc, flat_map, AllPairs, Contains, refl, sym, ap, ◌∙◌, subst, arith}
use Rattle.std.proofs.lemmas.List.{append-nil}
use Rattle.lethe_cover.proofs.Moved.{move_covers}
use Rattle.lethe_moves.specs.Merges.{Merges, levels_before, levels_then}
use Rattle.lethe_moves.proofs.Common.{⊎_elim, flat_map-append, map-append, All-contains, Contains-append_cases, Contains-append_left, Contains-append_right, Less, Covers, InFiles, History, key_cmp, File, Layout, entries_of, files_of, runs_of, IsOver, Entry, Pending, none_in, IsApart, files_in, IsCounted, files_right, files_runs, files_singles, singles, spelled_from, spelled_in, IsClearOf, IsTiled, hull_of_files, keys_of, IsBelow, Merge, inputs_of, Follows}
use Rattle.lethe_moves.proofs.Apart.{apart_back, around_apart, below_apart, clear_of, files_spanned}
use Rattle.lethe_moves.proofs.KeyOrder.{IsUpto, less_upto, upto_less, spans_through}
use Rattle.lethe_moves.proofs.Orders.{AreOrdered, IsOther, order_from, order_then, ordered_with, rise_at, rise_next, then_cases}
use Rattle.lethe_moves.proofs.Outputs.{above_old, made_bare, made_ends, made_outcome}
use Rattle.lethe_cover.proofs.Lists.{Pairs, in_middle, pairs_from, pairs_parts, spliced}
use Rattle.lethe_moves.proofs.Shifts.{runs_above, shift_moves}
use Rattle.lethe_moves.proofs.Tiled.{entry_keys}

module _ (threshold : ℕ) (h : History) (l : Layout) (follows : Follows threshold h l) (applied : List Pending) (swept : ℕ) (m : Merge) (merges : Merges threshold h l applied swept m) where
  abbrev level : List File
  level = m.newer ++ (m.sources ++ m.older)

  abbrev next : List File
  next = m.lower ++ (m.met ++ m.higher)

  abbrev next_then : List File
  next_then = m.lower ++ (m.made ++ m.higher)

  abbrev inputs : List File
  inputs = inputs_of m

  order : AreOrdered (levels_before m)
  order = subst AreOrdered merges.levels (order_from l follows.ordered)

  newer : (file other : File) → Contains m.made file → Contains (files_in (levels_before m)) other → other.no < file.no
  newer file other made was = above_old (files_of l) m.made merges.new file other made (subst (λ levels. Contains (files_in levels) other) (sym merges.levels) was)

  in_level : (file : File) → Contains level file → Contains (files_in (levels_before m)) file
  in_level file there = files_right m.above (level ∷ (next ∷ m.deeper)) file (Contains-append_left level (files_in (next ∷ m.deeper)) file there)

  in_behind : (file : File) → Contains (files_in (next ∷ m.deeper)) file → Contains (files_in (levels_before m)) file
  in_behind file there = files_right m.above (level ∷ (next ∷ m.deeper)) file (Contains-append_right level (files_in (next ∷ m.deeper)) file there)

  next_tiled : (file : File) → Contains next file → IsTiled file
  next_tiled file there = order.tiled file (in_behind file (Contains-append_left next (files_in m.deeper) file there))

  input_tiled : (file : File) → Contains inputs file → IsTiled file
  input_tiled file there = ⊎_elim (λ source. order.tiled file (in_level file (in_middle m.newer m.sources m.older file source))) (λ met. next_tiled file (in_middle m.lower m.met m.higher file met))
      (Contains-append_cases m.sources m.met file there)

  next_parts : Pairs IsBelow m.lower × Pairs IsBelow (m.met ++ m.higher) × ((file other : File) → Contains m.lower file → Contains (m.met ++ m.higher) other → IsBelow file other)
  next_parts = pairs_parts IsBelow m.lower (m.met ++ m.higher) (rise_next m.above level next m.deeper order.below)

  -- what stays of the next level lies below all inputs, or above them
  lower_below : (file input : File) → Contains m.lower file → Contains inputs input → IsBelow file input
  lower_below file input left there = ⊎_elim
      (λ source. less_upto (keys_of file).hi (hull_of_files m.sources).lo (keys_of input).lo
      (All-contains (λ file. key_cmp (keys_of file).hi (hull_of_files m.sources).lo ≡ Less) m.lower file merges.lower left) (files_spanned m.sources input source).0)
      (λ met. next_parts.2 file input left (Contains-append_left m.met m.higher input met)) (Contains-append_cases m.sources m.met input there)

  higher_above : (input file : File) → Contains inputs input → Contains m.higher file → IsBelow input file
  higher_above input file there right = ⊎_elim
      (λ source. upto_less (keys_of input).hi (hull_of_files m.sources).hi (keys_of file).lo (files_spanned m.sources input source).1
      (All-contains (λ file. key_cmp (hull_of_files m.sources).hi (keys_of file).lo ≡ Less) m.higher file merges.higher right))
      (λ met. (pairs_parts IsBelow m.met m.higher next_parts.1).2 input file met right) (Contains-append_cases m.sources m.met input there)

  abbrev IsCovered : Type 0
  IsCovered = Covers threshold h (record l { levels = levels_then m }) × IsCounted h (record l { levels = levels_then m })

  -- the runs above and those of the sources' level, some files of which count as above it
  covers_by : (above here here_then : List (List File)) (before behind : List File) → files_in here ≡ before ++ (m.sources ++ behind) → files_in here_then ≡ before ++ behind
      → ((file : File) → Contains (files_in here) file → Contains level file) → ((file other : File) → Contains before file ⊎ Contains behind file → Contains m.sources other → IsApart file other)
      → AllPairs IsOver here_then → runs_of (levels_before m) ≡ above ++ (here ++ ((next ∷ []) ++ m.deeper)) → runs_of (levels_then m) ≡ above ++ (here_then ++ ((next_then ∷ []) ++ m.deeper)) → IsCovered
  covers_by above here here_then before behind files left in_here apart order_here was afterwards = move_covers threshold h l follows.covers follows.counted (levels_then m) merges.alone applied swept
      (record { above = above; here = here; next = next ∷ []; below = m.deeper; here_then = here_then; next_then = next_then ∷ []; taken = inputs; made = m.made })
      (record {
        is = shift_moves merges.alone (record m { newer = before; older = behind }) above here here_then (next ∷ []) (next_then ∷ []) m.deeper (record {
          here_files = files;
          here_left = left;
          next_files = append-nil next;
          next_left = append-nil next_then;
          new = λ file made there. let below = newer file file made (subst (λ files. Contains files file) (ap files_in (sym was) ∙ files_runs (levels_before m)) there) in omega arith;
          once = λ file there met. absurd ((pairs_parts IsOther level (next ++ files_in m.deeper) (pairs_parts IsOther (files_in m.above) (level ++ (next ++ files_in m.deeper)) numbers).1).2
              file file (in_here file there) (Contains-append_left next (files_in m.deeper) file (in_middle m.lower m.met m.higher file met)) refl);
          here_apart = apart;
          next_apart = λ file other around input. ⊎_elim
              (λ lower. below_apart file other (next_tiled file (Contains-append_left m.lower (m.met ++ m.higher) file lower)) (input_tiled other input) (lower_below file other lower input))
              (λ higher. apart_back other file (below_apart other file (input_tiled other input)
              (next_tiled file (Contains-append_right m.lower (m.met ++ m.higher) file (Contains-append_right m.met m.higher file higher))) (higher_above other file input higher))) around;
          below_apart = λ lone file other there input. apart_back other file (λ entry below mine under same.
              clear_of (hull_of_files inputs) file (order.tiled file (in_behind file (Contains-append_right next (files_in m.deeper) file there)))
              (All-contains (IsClearOf (hull_of_files inputs)) (files_in m.deeper) file (merges.clear lone) there) entry.key
              (spans_through (hull_of_files inputs) (keys_of other) (record { lo = entry.key; hi = entry.key }) (files_spanned inputs other input) (entry_keys other (input_tiled other input) entry mine)) below under same);
          here_order = order_here;
          next_order = λ i j d before within. absurd (omega arith);
        });
        before = ap runs_of merges.levels ∙ was;
        afterwards = afterwards;
        outcome = made_outcome (InFiles inputs) (flat_map entries_of inputs) (spelled_from inputs) (spelled_in inputs) applied merges.alone swept m.made merges.made;
        applies = merges.applies;
        made_swept = λ file there. All-contains (λ file. file.swept ≡ swept) m.made file merges.made.swept there;
        upto = merges.upto;
        low = merges.low;
      })
    where
      numbers : Pairs IsOther (files_in m.above ++ (level ++ (next ++ files_in m.deeper)))
      numbers = subst (Pairs IsOther) (flat_map-append (λ files. files) m.above (level ∷ (next ∷ m.deeper))) order.numbers

  covers_then : IsCovered
  covers_then = ⊎_elim
      (λ zero. covers_by (singles m.newer) (singles m.sources) [] [] [] (files_singles m.sources ∙ sym (append-nil m.sources)) refl
      (λ file there. in_middle m.newer m.sources m.older file (subst (λ files. Contains files file) (files_singles m.sources) there))
      (λ file other. ⊎_elim (λ none. absurd (none_in file none)) (λ none. absurd (none_in file none))) (λ i j d before within. absurd (omega arith))
      (ap (λ above. runs_of (above ++ (level ∷ (next ∷ m.deeper)))) zero.0 ∙ ap (λ older. runs_of ((m.newer ++ (m.sources ++ older)) ∷ (next ∷ m.deeper))) zero.1 ∙ simp (map-append, append_assoc))
      (ap (λ above. runs_of (above ++ ((m.newer ++ m.older) ∷ (next_then ∷ m.deeper)))) zero.0 ∙ ap (λ older. runs_of ((m.newer ++ older) ∷ (next_then ∷ m.deeper))) zero.1 ∙ simp (map-append, append_assoc)))
      (λ deep. covers_by (runs_of m.above) (level ∷ []) ((m.newer ++ m.older) ∷ []) m.newer m.older (append-nil level) (append-nil (m.newer ++ m.older)) (λ file. subst (λ files. Contains files file) (append-nil level))
      (around_apart m.newer m.sources m.older (λ file there. order.tiled file (in_level file there)) (rise_at m.above level (next ∷ m.deeper) deep.0 order.below)) (λ i j d before within. absurd (omega arith))
      (runs_above m.above (level ∷ (next ∷ m.deeper)) deep.0) (runs_above m.above ((m.newer ++ m.older) ∷ (next_then ∷ m.deeper)) deep.0))
      merges.sources

  -- first the sources go, then the next level changes
  order_without : AreOrdered (m.above ++ ((m.newer ++ m.older) ∷ (next ∷ m.deeper)))
  order_without = order_then m.above m.newer m.sources m.older (next ∷ m.deeper) order [] (record {
    tiled = λ file there. absurd (none_in file there);
    numbers = tt;
    new = λ file other there. absurd (none_in file there);
    below = λ some. spliced IsBelow m.newer m.sources [] m.older (rise_at m.above level (next ∷ m.deeper) some order.below) tt (λ file other left there. absurd (none_in other there)) (λ file other there. absurd (none_in file there));
    bare = λ is. absurd cc;
  })

  order_merged : AreOrdered (levels_then m)
  order_merged =
      let ends = made_ends (InFiles inputs) (flat_map entries_of inputs) (spelled_from inputs) (spelled_in inputs) applied merges.alone swept m.made merges.made in
      let keys = λ (entry : Entry) (is : InFiles inputs entry). entry_keys is.file (input_tiled is.file is.there) entry is.spelled in
      let split = λ (next : List File). append_assoc m.above ((m.newer ++ m.older) ∷ []) (next ∷ m.deeper) in
      subst AreOrdered (split next_then) (order_then (m.above ++ (m.newer ++ m.older) ∷ []) m.lower m.met m.higher m.deeper (subst AreOrdered (sym (split next)) order_without) m.made (record {
        tiled = λ file there. All-contains IsTiled m.made file merges.made.tiled there;
        numbers = pairs_from IsOther m.made merges.new.distinct;
        new = λ file other made there. ⊎_elim (newer file other made) (λ none. absurd (none_in other none))
            (then_cases m.above m.newer m.sources m.older (next ∷ m.deeper) order [] other (subst (λ levels. Contains (files_in levels) other) (split next) there));
        below = λ some. spliced IsBelow m.lower m.met m.made m.higher (rise_next m.above level next m.deeper order.below) (pairs_from IsBelow m.made merges.ascending)
            (λ file made left there. let low = (ends made there).0 in
            less_upto (keys_of file).hi (keys_of low.1.file).lo (keys_of made).lo (lower_below file low.1.file left low.1.there) (subst (IsUpto (keys_of low.1.file).lo) low.2 (keys low.0 low.1).0))
            (λ made file there right. let high = (ends made there).1 in
            upto_less (keys_of made).hi (keys_of high.1.file).hi (keys_of file).lo (subst (λ key. IsUpto key (keys_of high.1.file).hi) high.2 (keys high.0 high.1).1) (higher_above high.1.file file high.1.there right));
        bare = λ is. made_bare (InFiles inputs) (flat_map entries_of inputs) (spelled_from inputs) (spelled_in inputs) applied merges.alone swept m.made merges.made (merges.bottom is);
      }))

  pub merge_follows : Follows threshold h (record l { levels = levels_then m })
  merge_follows = record { covers = covers_then.0; counted = covers_then.1; clock = follows.clock; ordered = ordered_with l (levels_then m) follows.ordered order_merged }
