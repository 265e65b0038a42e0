-- The step of a flush.
use Rattle.std.proofs.Common.{◌≡◌, ◌≢◌, ◌⊎◌, ◌≤◌, ◌<◌, ◌+◌, ◌-◌, ◌^◌, inl, inr, ℕ, Bool, IsTrue, List, [], ◌∷◌, ◌++◌, length, map, drop, All, AllPairs, Contains, Option, Some, None, refl, sym, ap, ◌∙◌, subst, arith}
use Rattle.std.specs.Prelude.{◌↔◌, flat_map, option_to_list, slice_index}
use Rattle.std.specs.FinMap as finmap
use Rattle.std.specs.List.{zip}
use Rattle.std.specs.List.Sorted.{IsPermutation}
use Rattle.std.proofs.lemmas.List.{length-drop}
use Rattle.std.proofs.lemmas.List.Concat.{flat_map-append}
use Rattle.std.proofs.lemmas.List.Elements.{All-append, All-cons, All-contains, All-drop, All-head, All-tail, All-nil, All-weaker, Contains-append_cases, Contains-append_left, Contains-append_right}
use Rattle.std.proofs.lemmas.List.Sorted.{Contains-permutation, IsPermutation-refl, IsPermutation-sym}
use Rattle.lethe_base.specs.Layout.{buffer_of, files_of, frozen_records}
use Rattle.lethe_base.specs.Limits.{max_place}
use Rattle.lethe_base.specs.declared.entry.Entry.{Entry}
use Rattle.lethe_base.specs.declared.name.Name.{Name}
use Rattle.lethe_base.proofs.LayoutLaws.{none_in}
use Rattle.lethe_base.proofs.Newest.{first_is, first_or_rest}
use Rattle.lethe_commit.specs.declared.objects.Object.{Object}
use Rattle.lethe_cover.proofs.Lists.{Pairs, all_from, in_map, map_from, pairs_append, pairs_from, pairs_to}
use Rattle.lethe_fade.specs.Spans.{KeyRange, overlaps}
use Rattle.lethe_file.specs.Agreement.{page_name}
use Rattle.lethe_flush.specs.Clear as clear
use Rattle.lethe_flush.specs.Flushed.{IsFlushOf}
use Rattle.lethe_flush.specs.Made.{named_of}
use Rattle.lethe_flush.specs.declared.made.MadeFiles.{MadeFiles}
use Rattle.lethe_flush.proofs.Newest.{newest_values}
use Rattle.lethe_follows.specs.Filed.{AreNewFiles, flushed}
use Rattle.lethe_follows.specs.Woven.{AreWovenOf}
use Rattle.lethe_follows.proofs.Following.{file_from, file_in}
use Rattle.lethe_follows.proofs.Stepping.{flushed_coherent}
use Rattle.lethe_header.specs.declared.header.PageLine.{PageLine}
use Rattle.lethe_manifest.specs.Manifests.{HasSpelling, IsFile}
use Rattle.lethe_manifest.specs.declared.manifest.Cited.{Cited}
use Rattle.lethe_manifest.specs.declared.manifest.Manifest.{Manifest}
use Rattle.lethe_mem.specs.Buffered.{Buffered}
use Rattle.lethe_merge.specs.Merge.{merged}
use Rattle.lethe_moves.specs.Files as moves
use Rattle.lethe_moves.specs.Flushes.{frozen_entries, span_of}
use Rattle.lethe_stored.specs.Files.{Parts, StoredFile, file_of, lines_in, objects_in, objects_of, parts_of}
use Rattle.lethe_stored.specs.Replayed.{AreNewestOf}
use Rattle.lethe_stored.specs.Stored.{Stored, Segment, count_of, layout_of, number_of, part_names, pending_of, plain, records_in, segment_name, segment_numbers}
use Rattle.lethe_stored.proofs.FileFacts.{lower_is, upper_is}
use Rattle.lethe_stored.proofs.Leveled.{low_level}
use Rattle.lethe_stored.proofs.Lists.{from_flat, from_map, in_flat, zip_left}
use Rattle.lethe_stored.proofs.Meanings.{frozen_are}
use Rattle.lethe_stored.proofs.Parts.{active_part, frozen_part, object_apart, object_part}
use Rattle.lethe_advance.specs.Settled.{AreDrawn, AreUncited, names_in}
use Rattle.lethe_advance.specs.Steps.{IsObjectFrom, IsSegmentFrom, IsSettledBy, IsStep, IsUncited, written_in}
use Rattle.lethe_advance.specs.declared.new_header.NewHeader.{NewHeader}
use Rattle.lethe_advance.specs.declared.step.Step.{Step}
use Rattle.lethe_state.specs.Clock.{clock_of}
use Rattle.lethe_state.specs.Made.{IsFlushStep, flushing_manifest}
use Rattle.lethe_state.specs.Records.{headers_in}
use Rattle.lethe_state.specs.Remembered.{IsCurrent, IsFrozenIn, Remembers}
use Rattle.lethe_state.specs.Room.{IsFlushed, IsStepFrom}
use Rattle.lethe_state.specs.Writable.{IsWritable}
use Rattle.lethe_state.specs.declared.state.State.{State}
use Rattle.lethe_state.proofs.FreezeStep.{later_files}
use Rattle.lethe_state.proofs.Leveled.{all_parts, parts_from, parts_to}
use Rattle.lethe_state.proofs.Shared.{all_kept, all_left, left_stays, left_there, loose_apart, loose_pages, one_all, one_once, still_uncited}

-- On any disk

module _ (state : State) (cited : List Cited) (number : ℕ) (is : IsWritable state) (two : length state.manifest.segments ≡ 2) (later : state.manifest.next ≤ number) (fits : number < max_place)
    (each : (levels : ℕ) → All (IsFile number levels) cited) (level : All (λ (file : Cited). file.level ≡ 0) cited) (few : length (cited ++ state.manifest.files) < 2 ^ 32) where
  abbrev next : ℕ
  next = state.manifest.next

  abbrev files : List Cited
  files = state.manifest.files

  abbrev IsRising : Cited → Cited → Type 0
  IsRising a b = a.level ≤ b.level

  files_rise : AllPairs IsRising (cited ++ files)
  files_rise = pairs_to IsRising (cited ++ files) (pairs_append IsRising cited files
      (pairs_from IsRising cited (pairs_to IsRising cited (zeroth_rise cited level)))
      (pairs_from IsRising files ((is.manifest).files).ascending)
      (λ a b left right. let zero = All-contains (λ (file : Cited). file.level ≡ 0) cited a level left in omega (arith, zero)))
    where
      zeroth_rise : (cited : List Cited) → All (λ (file : Cited). file.level ≡ 0) cited → Pairs IsRising cited
      zeroth_rise [] level = tt
      zeroth_rise (file ∷ cited) level =
          let zero : file.level ≡ 0 = All-head (λ (file : Cited). file.level ≡ 0) file cited level in
          ((λ other there. omega (arith, zero)), zeroth_rise cited (All-tail (λ (file : Cited). file.level ≡ 0) file cited level))

  one : length (drop 1 state.manifest.segments) ≡ 1
  one = length-drop 1 state.manifest.segments ∙ ap (λ n. n - 1) two

  flushing_spelled : HasSpelling (flushing_manifest state cited number)
  flushing_spelled = record {
    no = omega arith;
    config = (is.manifest).config;
    clock = (is.manifest).clock;
    count = is.count;
    next = omega (arith, fits);
    certificate = (is.manifest).certificate;
    erases = is.pending;
    segments = record {
      some = omega (arith, one);
      few = omega (arith, one);
      below = All-weaker (λ k. k < next) (λ k. k < number + 1) (λ k lt. omega (arith, lt, later)) (drop 1 state.manifest.segments) (All-drop (λ k. k < next) 1 state.manifest.segments ((is.manifest).segments).below);
    };
    files = record {
      few = few;
      each = All-append (IsFile (number + 1) state.manifest.config.levels) cited files
          (later_files number (number + 1) state.manifest.config.levels cited (omega arith) (each state.manifest.config.levels))
          (later_files next (number + 1) state.manifest.config.levels files (omega (arith, later)) ((is.manifest).files).each);
      ascending = files_rise;
    };
  }

pub flush_from : (state : State) (parts : MadeFiles) (headers : List NewHeader) (step : Step) → IsWritable state → length state.manifest.segments ≡ 2 → parts.next < max_place
    → parts.next ≡ state.next + length parts.objects.items → ((levels : ℕ) → All (IsFile parts.next levels) parts.cited.items) → All (λ (file : Cited). file.level ≡ 0) parts.cited.items
    → All (λ (new : NewHeader). new.level ≡ 0) parts.headers.items → IsFlushStep state parts headers step → length step.manifest.files < 2 ^ 32 → IsStepFrom 1 (clock_of state.manifest) state headers step
flush_from state parts headers step is two fits drawn each level new_level made few =
    let before = is.drawn in
    let later : state.manifest.next ≤ parts.next = omega (arith, before, drawn) in
    let short = subst (λ (m : Manifest). length m.files < 2 ^ 32) made.manifest few in
    let written : length step.objects.items ≡ length parts.objects.items = ap length made.objects in
    let number : step.manifest.no ≡ parts.next = ap (λ (m : Manifest). m.no) made.manifest in
    let last : step.manifest.next ≡ parts.next + 1 = ap (λ (m : Manifest). m.next) made.manifest in record {
      spelled = subst HasSpelling (sym made.manifest) (flushing_spelled state parts.cited.items parts.next is two later fits each level short);
      segments_are = ap (λ (m : Manifest). length m.segments) made.manifest ∙ one state parts.cited.items parts.next is two later fits each level short;
      config = ap (λ (m : Manifest). m.config) made.manifest;
      clock_is = ap clock_of made.manifest;
      levels = subst (All (λ (new : NewHeader). new.level ≤ state.manifest.config.levels)) (sym made.headers_are)
          (All-weaker (λ (new : NewHeader). new.level ≡ 0) (λ (new : NewHeader). new.level ≤ state.manifest.config.levels) (λ new zero. omega (arith, zero)) parts.headers.items new_level);
      numbers = omega (arith, written, number, drawn);
      next = omega (arith, number, last);
    }

-- Files that are clear of a range

clear_is : (keys : KeyRange) (file : StoredFile) → overlaps keys (clear.range_of file.header) ≡ overlaps keys (moves.keys_of (file_of file))
clear_is keys file = λ i. overlaps keys (record { lo = lower_is file.header.tiles file.pages i; hi = upper_is [] file.header.tiles file.pages i })

module _ (s : Stored) (state : State) (levels : List (List Parts)) (is : Remembers s state levels) (keys : KeyRange) where
  to_layout : All (clear.IsClearOf keys) (headers_in levels) → All (moves.IsClearOf keys) (files_of (layout_of s))
  to_layout headers = all_from (moves.IsClearOf keys) (files_of (layout_of s)) (λ file there.
      let from = file_from s.manifest.config.levels s.files file there in
      let parts = parts_to s is.coherent levels is.files from.0 from.1 in
      let header = All-contains (clear.IsClearOf keys) (headers_in levels) from.0.header headers (in_map (λ (p : Parts). p.header) (all_parts levels) (parts_of from.0) parts) in
      subst (moves.IsClearOf keys) from.3 (sym (clear_is keys from.0) ∙ header))

  from_layout : All (moves.IsClearOf keys) (files_of (layout_of s)) → All (clear.IsClearOf keys) (headers_in levels)
  from_layout files = all_from (clear.IsClearOf keys) (headers_in levels) (λ header there.
      let parts = map_from (λ (p : Parts). p.header) (all_parts levels) header there in
      let stored = parts_from s is.coherent levels is.files parts.0 parts.1 in
      let filed = file_in s.manifest.config.levels s.files stored.0 stored.1 (low_level s is.coherent stored.0 stored.1) in
      let clear_of = All-contains (moves.IsClearOf keys) (files_of (layout_of s)) (file_of stored.0) files filed in
      subst (clear.IsClearOf keys) (ap (λ (p : Parts). p.header) stored.2 ∙ parts.2) (clear_is keys stored.0 ∙ clear_of))

-- The frozen segment

record IsOlder (segment : Option Segment) (buffer : Buffered) : Type 0 where
  older : Segment
  some : segment ≡ Some older
  newest : AreNewestOf older.records buffer.entries

older_of : (segment : Option Segment) (buffer : Buffered) → IsFrozenIn segment (Some buffer) → IsOlder segment buffer
older_of None buffer is = absurd is
older_of (Some older) buffer is = record { older = older; some = refl; newest = is }

none_then : (entries : List Entry) → (0 < length entries) → entries ≢ []
none_then [] some is = absurd (omega (arith, some))
none_then (entry ∷ entries) some is = cc

some_then : (entries : List Entry) → entries ≢ [] → 0 < length entries
some_then [] some = absurd (some refl)
some_then (entry ∷ entries) some = omega arith

-- the objects of new files have new numbers
object_fresh : (first last : ℕ) (files : List StoredFile) → AreNewFiles first last files → (named : Name × List ℕ) → Contains (objects_of files) named → first ≤ named.0.no
object_fresh first last files new named there =
    let file = from_flat objects_in files named there in
    elim (first_or_rest _ _ named file.2) [
      | inl header ↦ subst (λ (n : Name × List ℕ). first ≤ n.0.no) header (All-contains (λ (f : StoredFile). (first ≤ f.header.no) × (f.header.no < last)) files file.0 new.headers file.1).0
      | inr page ↦
          let found = from_map (λ (p : PageLine × List ℕ). (page_name p.0.no, p.1)) (zip (lines_in file.0) file.0.pages) named page in
          let line = in_flat lines_in files file.0 (found.0).0 file.1 (zip_left (lines_in file.0) file.0.pages found.0 found.1) in
          subst (λ (n : Name × List ℕ). first ≤ n.0.no) found.2 (All-contains (λ (line : PageLine). first ≤ line.no) (flat_map lines_in files) (found.0).0 new.lines line)
    ]

-- new files have numbers from an earlier one on too
new_weaker : (earlier first last : ℕ) (files : List StoredFile) → earlier ≤ first → AreNewFiles first last files → AreNewFiles earlier last files
new_weaker earlier first last files le new = record {
  level = new.level;
  each = new.each;
  headers = All-weaker (λ (file : StoredFile). (first ≤ file.header.no) × (file.header.no < last)) (λ (file : StoredFile). (earlier ≤ file.header.no) × (file.header.no < last))
      (λ file is. let from = is.0 in (omega (arith, le, from), is.1)) files new.headers;
  lines = All-weaker (λ (line : PageLine). first ≤ line.no) (λ (line : PageLine). earlier ≤ line.no) (λ line from. omega (arith, le, from)) (flat_map lines_in files) new.lines;
  files_once = new.files_once;
  pages_once = new.pages_once;
}

module _ (s : Stored) (state : State) (levels : List (List Parts)) (is : Remembers s state levels) (current : IsCurrent s state) (fits : state.manifest.next ≤ state.next)
    (buffer : Buffered) (frozen : IsOlder s.frozen buffer) (alone : Bool) (made : MadeFiles) (files : List StoredFile)
    (flush : IsFlushOf state.manifest.config buffer.entries state.pending alone state.count state.next made files) (risen : state.next ≤ made.next) where
  abbrev older : Segment
  older = frozen.older

  abbrev number : ℕ
  number = made.next

  abbrev t : Stored
  t = flushed s files number

  next_is : state.manifest.next ≡ s.manifest.next
  next_is = ap (λ (m : Manifest). m.next) is.manifest

  drawn_before : s.manifest.next ≤ state.next
  drawn_before = omega (arith, fits, next_is)

  later : s.manifest.next ≤ number
  later = omega (arith, risen, drawn_before)

  new : AreNewFiles s.manifest.next number files
  new = new_weaker s.manifest.next state.next number files drawn_before flush.new

  entries_are : buffer.entries ≡ frozen_entries (layout_of s)
  entries_are = newest_values (frozen_records (layout_of s)) buffer.entries buffer.ascending (λ key.
      (frozen.newest) key ∙ ap (λ rs. finmap.get (buffer_of rs) key) (sym (frozen_are s ∙ ap (λ o. map plain (records_in o)) frozen.some)))

  files_made : AreWovenOf s.manifest.config (merged (frozen_entries (layout_of s)) (pending_of s) alone) (count_of s) (map file_of files)
  files_made =
      let named = map file_of files in
      subst (λ entries. AreWovenOf s.manifest.config (merged entries (pending_of s) alone) (count_of s) named) entries_are
      (subst (λ pending. AreWovenOf s.manifest.config (merged buffer.entries pending alone) (count_of s) named) is.pending
      (subst (λ upto. AreWovenOf s.manifest.config (merged buffer.entries state.pending alone) upto named) current.count
      (subst (λ (m : Manifest). AreWovenOf m.config (merged buffer.entries state.pending alone) state.count named) is.manifest flush.woven)))

  abbrev IsAlone : List Entry → Type 0
  IsAlone entries = (entries ≢ []) × All (moves.IsClearOf (span_of entries)) (files_of (layout_of s))

  flush_is_flushed : (IsTrue alone ↔ ((0 < length buffer.entries) × All (clear.IsClearOf (span_of buffer.entries)) (headers_in levels))) → IsFlushed s t
  flush_is_flushed clear_of = record {
    made = files;
    number = number;
    is = refl;
    new = new;
    order = flush.order;
    later = later;
    alone = alone;
    clear = subst (λ entries. IsTrue alone ↔ IsAlone entries) entries_are (
      (λ lone. let both = clear_of.0 lone in (none_then buffer.entries both.0, to_layout s state levels is (span_of buffer.entries) both.1)),
      (λ both. clear_of.1 (some_then buffer.entries both.0, from_layout s state levels is (span_of buffer.entries) both.1)),
    );
    files = files_made;
  }

  module _ (headers : List NewHeader) (step : Step) (stepped : IsFlushStep state made headers step) (spelled : HasSpelling step.manifest)
      (loose : List (Name × List ℕ)) (drawn : AreDrawn state.next (names_in loose)) (uncited_before : AreUncited s loose) where
    abbrev named : List Name
    named = map (λ named. named.0) (objects_of s.files)

    numbers : segment_numbers s ≡ older.no ∷ s.active.no ∷ []
    numbers = ap (λ (o : Option Segment). map number_of (option_to_list o) ++ s.active.no ∷ []) frozen.some

    segments : state.manifest.segments ≡ older.no ∷ s.active.no ∷ []
    segments = ap (λ (m : Manifest). m.segments) is.manifest ∙ (is.coherent).cites ∙ numbers

    active_left : drop 1 state.manifest.segments ≡ s.active.no ∷ []
    active_left = ap (drop 1) segments

    manifest_is : step.manifest ≡ t.manifest
    manifest_is = stepped.manifest ∙ (λ i. record (is.manifest i) {
      no = number;
      count = current.count i;
      next = number + 1;
      erases = is.pending i;
      segments = active_left i;
      files = flush.cited i ++ (is.manifest i).files;
    })

    gone_is : step.gone.items ≡ segment_name older.no ∷ []
    gone_is = stepped.gone ∙ ap (λ numbers. segment_name (slice_index numbers 0) ∷ []) segments

    apart : older.no ≢ s.active.no
    apart = (pairs_from (λ a b. a ≢ b) (older.no ∷ s.active.no ∷ []) (subst (AllPairs (λ a b. a ≢ b)) ((is.coherent).cites ∙ numbers) (is.coherent).once)).0 s.active.no (first_is s.active.no [] s.active.no refl)

    -- what is written is a new file's object, and the other way round
    of_files : (object : Object) → Contains step.objects.items object → Contains (objects_of files) (named_of object)
    of_files object there = Contains-permutation (map named_of made.objects.items) (objects_of files) (named_of object) (IsPermutation-sym (objects_of files) (map named_of made.objects.items) flush.objects)
        (in_map named_of made.objects.items object (subst (λ (objects : List Object). Contains objects object) stepped.objects there))

    written : (object : Name × List ℕ) → Contains (objects_of files) object → Contains (written_in step) object
    written object there = subst (λ (objects : List Object). Contains (map named_of objects) object) (sym stepped.objects)
        (Contains-permutation (objects_of files) (map named_of made.objects.items) object flush.objects there)

    both : objects_of t.files ≡ objects_of files ++ objects_of s.files
    both = flat_map-append objects_in files s.files

    new_object : (object : Name × List ℕ) → Contains (objects_of files) object → Contains (objects_of t.files) object
    new_object object there = subst (λ objects. Contains objects object) (sym both) (Contains-append_left (objects_of files) (objects_of s.files) object there)

    old_object : (object : Name × List ℕ) → Contains (objects_of s.files) object → Contains (objects_of t.files) object
    old_object object there = subst (λ objects. Contains objects object) (sym both) (Contains-append_right (objects_of files) (objects_of s.files) object there)

    object_from : (object : Name × List ℕ) → Contains (objects_of t.files) object → IsObjectFrom s loose step object
    object_from object there = elim (Contains-append_cases (objects_of files) (objects_of s.files) object (subst (λ objects. Contains objects object) both there)) [
      | inl fresh ↦ inr (inr (written object fresh))
      | inr old ↦ inl old
    ]

    old_or_fresh : (object : Name × List ℕ) → Contains (objects_of t.files) object → Contains (part_names s) object.0 ⊎ (state.next ≤ object.0.no)
    old_or_fresh object there = elim (Contains-append_cases (objects_of files) (objects_of s.files) object (subst (λ objects. Contains objects object) both there)) [
      | inl fresh ↦ inr (object_fresh state.next number files flush.new object fresh)
      | inr old ↦ inl (object_part s object old)
    ]

    segment_stays : (name : Name) (k : ℕ) → Contains (older.no ∷ s.active.no ∷ []) k → segment_name k ≡ name → IsSettledBy step t loose name
    segment_stays name k there same = elim (first_or_rest older.no (s.active.no ∷ []) k there) [
      | inl first ↦ inr (inl (subst (λ l. Contains l name) (sym gone_is) (first_is (segment_name older.no) [] name (ap segment_name first ∙ same))))
      | inr rest ↦ inl (subst (Contains (part_names t)) (ap segment_name (only s.active.no k rest) ∙ same) (active_part t))
    ]
      where
        only : (x y : ℕ) → Contains (x ∷ []) y → x ≡ y
        only x y there = elim (first_or_rest x [] y there) [ inl same ↦ same | inr none ↦ absurd (none_in y none) ]

    stays : (name : Name) → Contains (part_names s) name → IsSettledBy step t loose name
    stays name there = elim (Contains-append_cases (map segment_name (segment_numbers s)) named name there) [
      | inl segment ↦ let found = map_from segment_name (segment_numbers s) name segment in segment_stays name found.0 (subst (λ l. Contains l found.0) numbers found.1) found.2
      | inr object ↦
          let found = map_from (λ (n : Name × List ℕ). n.0) (objects_of s.files) name object in
          inl (subst (Contains (part_names t)) found.2 (object_part t found.0 (old_object found.0 found.1)))
    ]

    uncited : Contains (part_names t) (segment_name older.no) → ⊥
    uncited there = elim (Contains-append_cases (map segment_name (segment_numbers t)) (map (λ (n : Name × List ℕ). n.0) (objects_of t.files)) (segment_name older.no) there) [
      | inl segment ↦
          let found = map_from segment_name (s.active.no ∷ []) (segment_name older.no) segment in
          elim (first_or_rest s.active.no [] found.0 found.1) [
            | inl same ↦ apart (sym (same ∙ ap (λ (n : Name). n.no) found.2))
            | inr none ↦ none_in found.0 none
          ]
      | inr object ↦ let found = map_from (λ (n : Name × List ℕ). n.0) (objects_of t.files) (segment_name older.no) object in object_apart t older.no found.0 found.1 found.2
    ]

    flush_is_step : IsStep s loose t loose headers step
    flush_is_step = record {
      coherent = flushed_coherent s files number is.coherent later new (subst HasSpelling manifest_is spelled);
      config = refl;
      older = stepped.older ∙ ap (λ (m : Manifest). m.no) is.manifest;
      manifest = manifest_is;
      later = later;
      fresh = all_from (λ (object : Object). s.manifest.next ≤ object.name.no) step.objects.items (λ object there. object_fresh s.manifest.next number files new (named_of object) (of_files object there));
      once = subst (AllPairs (λ (a b : Object). a.name ≢ b.name)) (sym stepped.objects) flush.once;
      loose_pages = loose_pages state.next loose drawn;
      loose_uncited = uncited_before;
      beside = all_from (λ (object : Object). Contains (names_in loose) object.name → ⊥) step.objects.items
          (λ object there. loose_apart state.next loose drawn object.name (object_fresh state.next number files flush.new (named_of object) (of_files object there)));
      segments = All-cons (IsSegmentFrom s step) s.active [] (inl (Contains-append_right (option_to_list s.frozen) (s.active ∷ []) s.active (first_is s.active [] s.active refl))) (All-nil (IsSegmentFrom s step));
      objects = all_from (IsObjectFrom s loose step) (objects_of t.files) object_from;
      cited = all_from (λ (object : Object). Contains (part_names t) object.name) step.objects.items (λ object there. object_part t (named_of object) (new_object (named_of object) (of_files object there)));
      stays = all_from (IsSettledBy step t loose) (part_names s) stays;
      taken = all_left state.next loose drawn step t;
      gone = one_all (IsUncited s loose t) (segment_name older.no) step.gone.items gone_is (inl (frozen_part s older frozen.some), uncited);
      gone_once = one_once (λ (name other : Name). name ≢ other) (segment_name older.no) step.gone.items gone_is;
      left_there = left_there state.next loose drawn s;
      left_stays = left_stays state.next loose drawn s step.gone.items uncited_before (λ name there.
          All-contains (Contains (part_names s)) step.gone.items name (one_all (Contains (part_names s)) (segment_name older.no) step.gone.items gone_is (frozen_part s older frozen.some)) there);
      left_uncited = still_uncited state.next loose drawn s t old_or_fresh uncited_before;
      added = files;
      headers_are = stepped.headers_are ∙ flush.headers;
      files = subst (λ kept. IsPermutation (files ++ kept) (files ++ s.files)) (sym (all_kept s step stepped.merged)) (IsPermutation-refl (files ++ s.files));
    }

pub flush_steps : (s : Stored) (state : State) (levels : List (List Parts)) → Remembers s state levels → IsCurrent s state → state.manifest.next ≤ state.next
    → (buffer : Buffered) → state.frozen ≡ Some buffer → (alone : Bool) → (IsTrue alone ↔ ((0 < length buffer.entries) × All (clear.IsClearOf (span_of buffer.entries)) (headers_in levels)))
    → (made : MadeFiles) (files : List StoredFile) → IsFlushOf state.manifest.config buffer.entries state.pending alone state.count state.next made files → state.next ≤ made.next
    → (headers : List NewHeader) (step : Step) → IsFlushStep state made headers step → HasSpelling step.manifest
    → (loose : List (Name × List ℕ)) → AreDrawn state.next (names_in loose) → AreUncited s loose → (t : Stored) × IsFlushed s t × IsStep s loose t loose headers step
flush_steps s state levels is current fits buffer some alone clear_of made files flush risen headers step stepped spelled loose drawn uncited_before =
    let frozen = older_of s.frozen buffer (subst (IsFrozenIn s.frozen) some is.frozen) in (
      flushed s files made.next,
      flush_is_flushed s state levels is current fits buffer frozen alone made files flush risen clear_of,
      flush_is_step s state levels is current fits buffer frozen alone made files flush risen headers step stepped spelled loose drawn uncited_before,
    )
