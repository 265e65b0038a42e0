-- What is stored after a merge stands for the same history.
use Rattle.std.proofs.Common.{◌≡◌, ◌≢◌, inl, inr, ℕ, ◌+◌, ◌-◌, ◌<◌, ◌≤◌, Bool, IsTrue, List, [], ◌∷◌, ◌++◌, map, length, All, Contains, refl, sym, ap, ◌∙◌, subst, arith}
use Rattle.std.specs.Prelude.{flat_map}
use Rattle.std.specs.List.{range_with_len}
use Rattle.std.specs.declared.cmp.Ordering.TheVariants.{Less}
use Rattle.std.proofs.lemmas.Bool.{le-leb}
use Rattle.std.proofs.lemmas.List.{length-map, map-append}
use Rattle.std.proofs.lemmas.List.Elements.{All-contains, All-map}
use Rattle.std.proofs.lemmas.List.Folds.{flat_map-map}
use Rattle.std.proofs.lemmas.List.FromFn.{length-map-range_with_len}
use Rattle.lethe_base.specs.Covers.{Covers}
use Rattle.lethe_base.specs.Held.{Holds, InFiles}
use Rattle.lethe_base.specs.History.{History}
use Rattle.lethe_base.specs.Keys.{key_cmp}
use Rattle.lethe_base.specs.Layout.{File, Layout, entries_of, files_of}
use Rattle.lethe_base.specs.Shapes.{IsValidShape, shape_of}
use Rattle.lethe_base.specs.declared.entry.Entry.{Entry}
use Rattle.lethe_base.specs.declared.pending.Pending.{Pending}
use Rattle.lethe_base.proofs.LeftErases.{is_upto}
use Rattle.lethe_cover.specs.Outcomes.{IsApplied}
use Rattle.lethe_cover.proofs.Common.{⊎_map}
use Rattle.lethe_cover.proofs.Grown.{placed_within}
use Rattle.lethe_cover.proofs.Lists.{all_from, flat_from, map_from, pairs_map, pairs_from, pairs_to}
use Rattle.lethe_cover.proofs.Reading.{spelled_in}
use Rattle.lethe_fade.specs.Spans.{overlaps}
use Rattle.lethe_moves.specs.Merge.{merged}
use Rattle.lethe_moves.specs.Files.{IsClearOf, hull_of_files, keys_of}
use Rattle.lethe_moves.specs.Made.{AreMade, AreNew}
use Rattle.lethe_moves.specs.Merges as moves
use Rattle.lethe_moves.specs.Merges.{Merge, Merges}
use Rattle.lethe_moves.specs.Reaches.{Follows}
use Rattle.lethe_moves.proofs.MergeMoves.{merge_follows}
use Rattle.lethe_moves.proofs.Orders.{IsOther}
use Rattle.lethe_stored.specs.Files.{StoredFile, file_of, at_level, levels_of}
use Rattle.lethe_stored.specs.Kept.{IsFor}
use Rattle.lethe_stored.specs.Stored.{Stored, IsCoherent, count_of, layout_of, pending_of}
use Rattle.lethe_stored.proofs.Leveled.{from_filter, from_level, in_filter, low_level, of_level}
use Rattle.lethe_stored.proofs.Numbered.{covers_numbered}
use Rattle.lethe_follows.specs.Merged.{Company, Beside, IsAlone, IsMergeIn, IsMergedWith, StoredMerge, IsWhole, entries_in, erases_upto, hull_of, inputs_of}
use Rattle.lethe_follows.proofs.Filing.{old_number}
use Rattle.lethe_follows.proofs.Following.{file_from, file_in, follows}
use Rattle.lethe_follows.proofs.LettingGo.{kept_for}
use Rattle.lethe_follows.proofs.MergeLevels.{levels_are, levels_become, merge_of, range_from}
use Rattle.lethe_follows.proofs.Renewed.{all_pending, is_renewed, renewed, renewed_has}

-- The inputs as a layout has them

laid_inputs : (m : StoredMerge) → map file_of (inputs_of m) ≡ map file_of m.sources ++ map file_of m.met
laid_inputs m = map-append file_of m.sources m.met

entries_laid : (m : StoredMerge) → entries_in (inputs_of m) ≡ flat_map entries_of (map file_of m.sources ++ map file_of m.met)
entries_laid m = sym (flat_map-map entries_of file_of (inputs_of m)) ∙ ap (flat_map entries_of) (laid_inputs m)

none_mapped : {X Y : Type 0} (f : X → Y) (xs : List X) → map f xs ≡ [] → xs ≡ []
none_mapped f [] none = refl
none_mapped f (x ∷ xs) none = absurd cc

module _ {company : Company} (h : History) (s : Stored) (coherent : IsCoherent s) (stands : IsFor h s) (m : StoredMerge) (begun : IsMergeIn s m) (alone : Bool)
    (lone : IsTrue alone → IsAlone s m.level (hull_of (inputs_of m))) (last : m.level + 1 ≡ s.manifest.config.levels → IsTrue alone)
    (upto : ℕ) (within : upto ≤ count_of s) (low : All (λ (entry : Entry). entry.seq ≤ upto) (entries_in (inputs_of m)))
    (t : Stored) (is : IsMergedWith company s m (erases_upto upto (pending_of s)) alone upto t)
  where
    abbrev deepest : ℕ
    deepest = s.manifest.config.levels

    abbrev threshold : ℕ
    threshold = s.manifest.config.threshold

    abbrev l : Layout
    l = layout_of s

    abbrev laid : Merge
    laid = merge_of deepest s.files m is.made

    is_whole : IsWhole m → moves.IsWhole laid
    is_whole = ⊎_map
        (λ zero. (ap (λ k. map (at_level s.files) (range_with_len 0 k)) zero.0, ap (map file_of) zero.1, λ none. zero.2 (none_mapped file_of m.sources none)))
        (λ deep. (
          (λ none. let count = length-map-range_with_len (at_level s.files) 0 m.level in let empty = ap length none in let behind = deep.0 in omega (arith, count, empty, behind)),
          length-map m.sources file_of ∙ deep.1,
        ))

    -- a file of a deeper level
    clear_below : IsTrue alone → (file : File) → Contains (flat_map (λ files. files) laid.deeper) file → IsClearOf (hull_of (inputs_of m)) file
    clear_below holds file there =
        let found = flat_from (λ files. files) laid.deeper file there in
        let level = range_from (at_level s.files) (m.level + 2) (deepest - (m.level + 1)) found.0 found.1 in
        let mapped = map_from file_of (of_level s.files level.0) file (subst (λ (files : List File). Contains files file) (sym level.2) found.2) in
        let stored = from_level s.files level.0 mapped.0 mapped.1 in
        let deep = level.1 in
        let same = stored.1 in
        subst (IsClearOf (hull_of (inputs_of m))) mapped.2
        (All-contains (λ (file : StoredFile). m.level + 1 < file.level → IsClearOf (hull_of (inputs_of m)) (file_of file)) s.files mapped.0 (lone holds) stored.0 (omega (arith, deep, same)))

    no_deeper : laid.deeper ≡ [] → IsTrue alone
    no_deeper none =
        let count = length-map-range_with_len (at_level s.files) (m.level + 2) (deepest - (m.level + 1)) in
        let empty = ap length none in
        let high = begun.level in
        last (omega (arith, count, empty, high))

    new_files : AreNew (files_of l) (map file_of is.made)
    new_files = record {
      distinct = pairs_to IsOther (map file_of is.made) (pairs_map IsOther file_of is.made (pairs_from (λ (a b : StoredFile). a.header.no ≢ b.header.no) is.made is.new.files_once));
      above = all_from (λ file. All (λ other. other.no < file.no) (files_of l)) (map file_of is.made) (λ file there. all_from (λ other. other.no < file.no) (files_of l) (λ other was.
          let new = map_from file_of is.made file there in
          let old = file_from deepest s.files other was in
          let high = (All-contains (λ (file : StoredFile). (s.manifest.next ≤ file.header.no) × (file.header.no < is.number)) is.made new.0 is.new.headers new.1).0 in
          let below = old_number s coherent old.0 old.1 in
          let one = ap (λ (f : File). f.no) new.2 in
          let two = ap (λ (f : File). f.no) old.3 in
          omega (arith, high, below, one, two)));
    }

    abbrev applied : List Pending
    applied = erases_upto upto (pending_of s)

    was_pending : (erase : Pending) → Contains applied erase → Contains l.pending erase
    was_pending erase there = (from_filter (is_upto upto) (pending_of s) erase there).0

    -- all that is pending up to the place is applied
    applies : IsApplied threshold h l.clock (Holds l) l.pending applied (InFiles (moves.inputs_of laid)) upto
    applies = record {
      complete = λ erase input there below own. inl (in_filter (is_upto upto) (pending_of s) erase there (le-leb erase.seq upto below));
      accepted = λ erase there. stands.covers.places.erases erase (inl (was_pending erase there));
      fresh = λ erase there. (stands.covers.times_fresh.erases erase (inl (was_pending erase there))).fresh;
      sound = λ erase input dkey value there own put matched. inl (was_pending erase there);
    }

    merges : Merges threshold h l applied upto laid
    merges = record {
      levels = levels_are deepest s.files m is.made begun.level begun.from begun.into;
      sources = is_whole begun.whole;
      lower = All-map (λ file. key_cmp (keys_of file).hi (hull_of_files laid.sources).lo ≡ Less) file_of m.lower begun.lower;
      met = All-map (λ file. IsTrue (overlaps (hull_of_files laid.sources) (keys_of file))) file_of m.met begun.met;
      higher = All-map (λ file. key_cmp (hull_of_files laid.sources).hi (keys_of file).lo ≡ Less) file_of m.higher begun.higher;
      alone = alone;
      clear = λ holds. subst (λ files. All (IsClearOf (hull_of_files files)) (flat_map (λ files. files) laid.deeper)) (laid_inputs m)
          (all_from (IsClearOf (hull_of (inputs_of m))) (flat_map (λ files. files) laid.deeper) (clear_below holds));
      bottom = no_deeper;
      made = subst (λ entries. AreMade (merged entries applied alone) upto (map file_of is.made)) (entries_laid m) is.woven.made;
      ascending = is.woven.ascending;
      new = new_files;
      applies = applies;
      upto = let count = stands.count in omega (arith, count, within);
      low = λ entry own. All-contains (λ (entry : Entry). entry.seq ≤ upto) (entries_in (inputs_of m)) entry low
          (subst (λ entries. Contains entries entry) (sym (entries_laid m)) (spelled_in (moves.inputs_of laid) entry own));
    }

    after : Follows threshold h (record l { levels = moves.levels_then laid })
    after = merge_follows threshold h l (follows h s coherent stands) applied upto laid merges

    -- with all erases that were pending
    abbrev next : Stored
    next = renewed Beside s t.files is.number

    levels_merged : levels_of deepest t.files ≡ moves.levels_then laid
    levels_merged = levels_become deepest s.files t.files m is.made begun.level is.from is.into is.rest

    count_merged : count_of next ≡ count_of s
    count_merged = omega arith

    layout_merged : layout_of next ≡ record l { levels = moves.levels_then laid; count = count_of next; next = is.number + 1 }
    layout_merged = λ i. record l { count = count_of next; next = is.number + 1; pending = all_pending s t.files is.number i; levels = levels_merged i }

    all_for : IsFor h next
    all_for = record {
      legal = stands.legal;
      done = stands.done;
      covers = subst (Covers threshold h) (sym layout_merged) (covers_numbered threshold h (record l { levels = moves.levels_then laid }) (count_of next) (is.number + 1) after.covers);
      shape = subst (λ l. IsValidShape (shape_of l)) (sym layout_merged) after.ordered.shape;
      clock = stands.clock;
      count = count_merged ∙ stands.count;
      certificate = stands.certificate;
    }

    -- with these, what is stored stands for the history, and so it does without those that are spent, which leave where no other job is in flight
    pub merged_for : IsFor h t
    merged_for = subst (IsFor h) (is_renewed company s t is.number is.manifest is.frozen is.active) (renewed_has s t.files is.number company (IsFor h) all_for (kept_for next h))

-- The places of all entries

pub all_counted : (h : History) (s : Stored) → IsCoherent s → IsFor h s → All (λ (entry : Entry). entry.seq ≤ count_of s) (entries_in s.files)
all_counted h s coherent stands = all_from (λ (entry : Entry). entry.seq ≤ count_of s) (entries_in s.files) (λ entry there.
    let found = flat_from (λ (file : StoredFile). entries_of (file_of file)) s.files entry there in
    let filed = file_in s.manifest.config.levels s.files found.0 found.1 (low_level s coherent found.0 found.1) in
    let placed = stands.covers.places.entries entry found.0.swept (inr (record { file = file_of found.0; there = filed; spelled = found.2 }, refl)) in
    let count = stands.count in
    omega (arith, count, placed_within h entry.seq entry.key entry.body placed))
