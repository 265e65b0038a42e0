-- What is stored after a sweep stands for the same history.
use Rattle.std.proofs.Common.{◌≡◌, ℕ, zero, suc, ◌+◌, ◌-◌, ◌<◌, ◌≤◌, Bool, IsTrue, List, [], ◌∷◌, ◌++◌, map, length, All, Contains, Option, Some, None, refl, sym, ap, ◌∙◌, subst, arith}
use Rattle.std.specs.Prelude.{flat_map}
use Rattle.std.specs.List.{cons_option, range_with_len}
use Rattle.std.specs.Option.{IfSome}
use Rattle.std.proofs.lemmas.List.Elements.{All-contains, Contains-append_cases}
use Rattle.std.proofs.lemmas.List.FromFn.{length-map-range_with_len}
use Rattle.lethe_base.specs.Covers.{Covers}
use Rattle.lethe_base.specs.Held.{InFiles}
use Rattle.lethe_base.specs.History.{History}
use Rattle.lethe_base.specs.Keys.{Bytes}
use Rattle.lethe_base.specs.Layout.{File, Layout, entries_of, files_of}
use Rattle.lethe_base.specs.Shapes.{IsValidShape, shape_of}
use Rattle.lethe_base.specs.declared.entry.Entry.{Entry}
use Rattle.lethe_base.specs.declared.pending.Pending.{Pending}
use Rattle.lethe_cover.proofs.Common.{⊎_elim, first_is}
use Rattle.lethe_cover.proofs.Lists.{Pairs, all_from, flat_from, flat_in, in_map, map_from, pairs_map, pairs_to}
use Rattle.lethe_moves.specs.Files.{IsClearOf, IsTiled, IsWithin, keys_of}
use Rattle.lethe_moves.specs.Made.{AreNew}
use Rattle.lethe_moves.specs.Sweeps as moves
use Rattle.lethe_moves.specs.Sweeps.{Sweep, SweepsFile, below_of, made_files}
use Rattle.lethe_moves.specs.Reaches.{Follows}
use Rattle.lethe_moves.proofs.Orders.{IsOther}
use Rattle.lethe_moves.proofs.SweepMoves.{sweep_follows}
use Rattle.lethe_stored.specs.Files.{StoredFile, IsFile, file_of, at_level, levels_of}
use Rattle.lethe_stored.specs.Kept.{IsFor}
use Rattle.lethe_stored.specs.Stored.{Stored, IsCoherent, count_of, layout_of}
use Rattle.lethe_stored.proofs.Leveled.{from_level, low_level, of_level}
use Rattle.lethe_stored.proofs.Numbered.{covers_numbered}
use Rattle.lethe_follows.specs.Merged.{Company, entries_in, range_of}
use Rattle.lethe_follows.proofs.Filing.{old_number}
use Rattle.lethe_follows.proofs.Following.{file_from, follows}
use Rattle.lethe_follows.proofs.LettingGo.{kept_for}
use Rattle.lethe_follows.proofs.MergeLevels.{range_from}
use Rattle.lethe_follows.proofs.Renewed.{renewed_has}
use Rattle.lethe_follows.proofs.Tiled.{file_tiled}
use Rattle.lethe_sweeps.specs.Swept.{HasNoneBelow, IsSweepIn, IsSweptWith, StoredSweep, files_before}
use Rattle.lethe_sweeps.proofs.SweptErases.{pending_all, swept_is, with_all}
use Rattle.lethe_sweeps.proofs.SweptFiles.{few, own_in}
use Rattle.lethe_sweeps.proofs.SweptLevels.{levels_are, levels_become, made_is, sweep_of}

-- what holds of each file of a list of at most one holds of the one
if_some : (P : File → Type 0) (made : Option StoredFile) → ((file : StoredFile) → Contains (cons_option made []) file → P (file_of file))
    → (o : Option File) → cons_option o [] ≡ map file_of (cons_option made []) → IfSome o P
if_some P None each None same = tt
if_some P None each (Some file) same = absurd cc
if_some P (Some made) each None same = absurd cc
if_some P (Some made) each (Some file) same =
    let one = map_from file_of (made ∷ []) file (subst (λ files. Contains files file) same (first_is file [] file refl)) in
    subst P one.2 (each one.0 one.1)

module _ {company : Company} (h : History) (s : Stored) (coherent : IsCoherent s) (stands : IsFor h s) (w : StoredSweep) (erase : Pending) (alone : Bool)
    (begun : IsSweepIn s w erase alone) (t : Stored) (is : IsSweptWith company s w erase alone t)
  where
    abbrev deepest : ℕ
    deepest = s.manifest.config.levels

    abbrev threshold : ℕ
    threshold = s.manifest.config.threshold

    abbrev l : Layout
    l = layout_of s

    abbrev own : ℕ
    own = w.file.level

    abbrev made : List StoredFile
    made = cons_option is.made []

    abbrev laid : Sweep
    laid = sweep_of w deepest is.made

    there : Contains s.files w.file
    there = own_in s coherent w erase alone begun t is

    low : own ≤ deepest
    low = low_level s coherent w.file there

    -- what is made, as a layout has it
    new_from : (file : File) → Contains (made_files laid) file → (stored : StoredFile) × Contains made stored × (file_of stored ≡ file)
    new_from file new = map_from file_of made file (subst (λ files. Contains files file) (made_is w is.made) new)

    new_in : (file : StoredFile) → Contains made file → Contains (made_files laid) (file_of file)
    new_in file new = subst (λ files. Contains files (file_of file)) (sym (made_is w is.made)) (in_map file_of made file new)

    -- a file below the swept one
    clear_deeper : HasNoneBelow s w → (file : File) → Contains (flat_map (λ files. files) laid.deeper) file → IsClearOf (range_of w.file) file
    clear_deeper none file below =
        let found = flat_from (λ files. files) laid.deeper file below in
        let level = range_from (at_level (files_before w)) (own + 1) (deepest - own) found.0 found.1 in
        let mapped = map_from file_of (of_level (files_before w) level.0) file (subst (λ (files : List File). Contains files file) (sym level.2) found.2) in
        let stored = from_level (files_before w) level.0 mapped.0 mapped.1 in
        let deep = level.1 in
        let same = stored.1 in
        subst (IsClearOf (range_of w.file)) mapped.2
        (All-contains (λ (file : StoredFile). own < file.level → IsClearOf (range_of w.file) (file_of file)) s.files mapped.0 none.deeper
        (subst (λ files. Contains files mapped.0) (sym begun.files) stored.0) (omega (arith, deep, same)))

    clear_older : HasNoneBelow s w → own ≡ 0 → (file : File) → Contains laid.behind file → IsClearOf (range_of w.file) file
    clear_older none zeroth file older =
        let mapped = map_from file_of (of_level w.back own) file older in
        let stored = from_level w.back own mapped.0 mapped.1 in
        subst (IsClearOf (range_of w.file)) mapped.2
        (All-contains (λ (file : StoredFile). file.level ≡ 0 → IsClearOf (range_of w.file) (file_of file)) w.back mapped.0 (none.older zeroth) stored.0 (stored.1 ∙ zeroth))

    clear_all : HasNoneBelow s w → (level : ℕ) → level ≡ own
        → All (IsClearOf (range_of w.file)) (below_of (map (at_level (files_before w)) (range_with_len 0 level)) laid.behind laid.deeper)
    clear_all none zero same = all_from (IsClearOf (range_of w.file)) (laid.behind ++ flat_map (λ files. files) laid.deeper) (λ file below.
        ⊎_elim (clear_older none (sym same) file) (clear_deeper none file) (Contains-append_cases laid.behind (flat_map (λ files. files) laid.deeper) file below))
    clear_all none (suc level) same = all_from (IsClearOf (range_of w.file)) (flat_map (λ files. files) laid.deeper) (clear_deeper none)

    no_deeper : laid.deeper ≡ [] → IsTrue alone
    no_deeper none =
        let count = length-map-range_with_len (at_level (files_before w)) (own + 1) (deepest - own) in
        let empty = ap length none in
        begun.bottom (omega (arith, count, empty, low))

    -- entries of what is made
    to_made : (output : Entry) → InFiles (made_files laid) output → Contains (entries_in made) output
    to_made output own_entry =
        let new = new_from own_entry.file own_entry.there in
        flat_in (λ (file : StoredFile). entries_of (file_of file)) made new.0 output new.1
        (subst (λ (file : File). Contains (entries_of file) output) (sym new.2) own_entry.spelled)

    from_made : (output : Entry) → Contains (entries_in made) output → InFiles (made_files laid) output
    from_made output inside =
        let found = flat_from (λ (file : StoredFile). entries_of (file_of file)) made output inside in
        record { file = file_of found.0; there = new_in found.0 found.1; spelled = found.2 }

    made_tiled : All IsTiled (made_files laid)
    made_tiled = all_from IsTiled (made_files laid) (λ file new. let from = new_from file new in
        subst IsTiled from.2 (file_tiled is.number from.0 (All-contains (IsFile is.number) made from.0 is.left.each from.1)))

    new_files : AreNew (files_of l) (made_files laid)
    new_files = record {
      distinct = pairs_to IsOther (made_files laid) (subst (Pairs IsOther) (sym (made_is w is.made))
          (pairs_map IsOther file_of made (few (λ a b. IsOther (file_of a) (file_of b)) is.made)));
      above = all_from (λ file. All (λ other. other.no < file.no) (files_of l)) (made_files laid) (λ file new. all_from (λ other. other.no < file.no) (files_of l) (λ other was.
          let from = new_from file new in
          let old = file_from deepest s.files other was in
          let high = (All-contains (λ (left : StoredFile). (s.manifest.next ≤ left.header.no) × (left.header.no < is.number)) made from.0 is.left.headers from.1).0 in
          let below = old_number s coherent old.0 old.1 in
          let one = ap (λ (f : File). f.no) from.2 in
          let two = ap (λ (f : File). f.no) old.3 in
          omega (arith, high, below, one, two)));
    }

    abbrev IsBetween : Bytes → Type 0
    IsBetween key = IsWithin (keys_of (file_of w.file)).lo (keys_of (file_of w.file)).hi key

    abbrev IsInside : File → Type 0
    IsInside file = IsBetween (keys_of file).lo × IsBetween (keys_of file).hi

    sweeps : SweepsFile h l erase laid
    sweeps = record {
      levels = ap (levels_of deepest) begun.files ∙ levels_are w deepest is.made low;
      pending = begun.pending;
      due = begun.unswept;
      oldest = begun.oldest;
      alone = alone;
      clear = λ holds. clear_all (begun.clear holds) own refl;
      bottom = no_deeper;
      from = λ output inside. is.left.from output (to_made output inside);
      kept = λ entry output inside left. from_made output (is.left.kept entry output inside left);
      tiled = made_tiled;
      inside = if_some IsInside is.made (λ file new. (
        All-contains (λ (left : StoredFile). IsWithin (range_of w.file).lo (range_of w.file).hi (range_of left).lo) made file is.left.lo new,
        All-contains (λ (left : StoredFile). IsWithin (range_of w.file).lo (range_of w.file).hi (range_of left).hi) made file is.left.hi new,
      )) laid.made (made_is w is.made);
      swept = if_some (λ (file : File). file.swept ≡ erase.seq) is.made
          (λ file new. All-contains (λ (left : StoredFile). left.swept ≡ erase.seq) made file is.left.swept new) laid.made (made_is w is.made);
      new = new_files;
    }

    after : Follows threshold h (record l { levels = moves.levels_then laid })
    after = sweep_follows threshold h l (follows h s coherent stands) erase laid sweeps

    abbrev next : Stored
    next = with_all s w erase alone t is

    levels_swept : levels_of deepest t.files ≡ moves.levels_then laid
    levels_swept = ap (levels_of deepest) is.files ∙ levels_become w deepest is.made low is.left.level

    count_swept : count_of next ≡ count_of s
    count_swept = omega arith

    layout_swept : layout_of next ≡ record l { levels = moves.levels_then laid; count = count_of next; next = is.number + 1 }
    layout_swept = λ i. record l { count = count_of next; next = is.number + 1; pending = pending_all s w erase alone t is i; levels = levels_swept i }

    all_for : IsFor h next
    all_for = record {
      legal = stands.legal;
      done = stands.done;
      covers = subst (Covers threshold h) (sym layout_swept)
          (covers_numbered threshold h (record l { levels = moves.levels_then laid }) (count_of next) (is.number + 1) after.covers);
      shape = subst (λ l. IsValidShape (shape_of l)) (sym layout_swept) after.ordered.shape;
      clock = stands.clock;
      count = count_swept ∙ stands.count;
      certificate = stands.certificate;
    }

    -- with all that was pending, what is stored stands for the history, and so it does without what is spent, which leaves where no other job is in flight
    pub swept_for : IsFor h t
    swept_for = subst (IsFor h) (swept_is s w erase alone t is) (renewed_has s t.files is.number company (IsFor h) all_for (kept_for next h))
