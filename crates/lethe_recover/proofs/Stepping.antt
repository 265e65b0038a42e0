-- The step of an opening leads from what is stored to what is stored next.
use Rattle.std.proofs.Common.{◌≡◌, ◌≢◌, ◌⊎◌, ◌<◌, ◌≤◌, ◌+◌, inl, inr, ℕ, true, List, [], ◌∷◌, ◌++◌, append_assoc, map, length, All, AllPairs, Contains, refl, sym, ap, ◌∙◌, subst, arith}
use Rattle.std.specs.Prelude.{◌↔◌}
use Rattle.std.specs.List.Sorted.{IsPermutation}
use Rattle.std.proofs.lemmas.List.{map-append}
use Rattle.std.proofs.lemmas.List.Concat.{flat_map-append}
use Rattle.std.proofs.lemmas.List.Elements.{All-append, All-contains, All-cons, All-nil, Contains-append_left, Contains-append_right, Contains-append_cases, Contains-push}
use Rattle.std.proofs.lemmas.List.Sorted.{IsPermutation-refl}
use Rattle.lethe_base.specs.History.{History}
use Rattle.lethe_base.specs.Layout.{File, Layout, files_of}
use Rattle.lethe_base.specs.declared.name.Kind.TheVariants.{Page}
use Rattle.lethe_base.specs.declared.name.Name.{Name}
use Rattle.lethe_base.specs.declared.pending.Pending.{Pending}
use Rattle.lethe_cover.specs.Flushes as layouts
use Rattle.lethe_cover.specs.Steps.{frozen}
use Rattle.lethe_base.proofs.LayoutLaws.{none_in}
use Rattle.lethe_cover.proofs.Lists.{Pairs, only_in, pairs_append, pairs_from, pairs_map, pairs_to}
use Rattle.lethe_fade.specs.Spans.{KeyRange}
use Rattle.lethe_header.specs.declared.header.Header.{Header}
use Rattle.lethe_segment.specs.Segments.{segment_bytes}
use Rattle.lethe_moves.specs.Files as moves
use Rattle.lethe_moves.specs.Flushes.{Flushes}
use Rattle.lethe_manifest.specs.Manifests.{HasSpelling}
use Rattle.lethe_manifest.specs.declared.manifest.Manifest.{Manifest}
use Rattle.lethe_commit.specs.declared.objects.Object.{Object}
use Rattle.lethe_stored.specs.Files.{StoredFile, cited_of, file_of, objects_in, objects_of}
use Rattle.lethe_stored.specs.Kept.{IsFor}
use Rattle.lethe_stored.specs.Stored.{Stored, IsCited, IsCoherent, count_of, layout_of, part_names, pending_of, plain, records_in, segment_name, segment_numbers}
use Rattle.lethe_stored.proofs.Frame.{same_no}
use Rattle.lethe_stored.proofs.Lists.{all_from, all_left, all_right, from_map}
use Rattle.lethe_stored.proofs.Parts.{active_part, object_apart, object_part, part_below}
use Rattle.lethe_version.specs.Order.{is_kept}
use Rattle.lethe_follows.specs.Filed.{AreNewFiles, reopened}
use Rattle.lethe_follows.specs.Leaving.{kept_erases, leaving, let_go}
use Rattle.lethe_follows.proofs.LettingGo.{kept_for}
use Rattle.lethe_follows.proofs.Stepping.{reopened_for}
use Rattle.lethe_flush.specs.Clear as clear
use Rattle.lethe_flush.specs.Flushed.{IsFlushOf}
use Rattle.lethe_flush.specs.Made.{headers_of, named_of}
use Rattle.lethe_advance.specs.Settled.{names_in}
use Rattle.lethe_advance.specs.Steps.{IsSettledBy, IsStep, IsSegmentFrom, IsObjectFrom, IsUncited, WasThere, kept_files, new_header, written_in}
use Rattle.lethe_advance.proofs.Lists.{filter_all}
use Rattle.lethe_flush.proofs.Finishing.{headers_made}
use Rattle.lethe_recover.specs.Flushing.{AreFlushesOf, IsWritable}
use Rattle.lethe_recover.specs.Journals.{IsJournalOf}
use Rattle.lethe_advance.specs.Segment.{empty_segment}
use Rattle.lethe_recover.specs.Reopening.{AreFiled, AreHeadersOf, IsReopenedAs, IsStepOf, Reopens, cited_with, left_beside, successor}
use Rattle.lethe_recover.specs.declared.flushing.Flushes as both
use Rattle.lethe_recover.specs.declared.journal.Journal.{Journal}
use Rattle.lethe_recover.specs.declared.reopening.Reopening.{Reopening}
use Rattle.lethe_recover.proofs.Filed.{filed_of, flushes_of, frozen_are, heads_more, heads_same, new_clear, stored_below, stored_clear}
use Rattle.lethe_recover.proofs.Leaving.{kept_reopened, leaving_coherent}
use Rattle.lethe_recover.proofs.NewFiles.{both_new, numbers_of, object_from, object_to}

-- One alone, and none

nothing : {X : Type 0} (x : X) → Contains (let none : List X = [] in none) x → ⊥
nothing x there = none_in x there

one : {X : Type 0} (x y : X) → Contains (x ∷ []) y → x ≡ y
one x y there = only_in x y there

-- Names

names_apart : (numbers : List ℕ) → Pairs (λ a b. a ≢ b) numbers → Pairs (λ a b. segment_name a ≢ segment_name b) numbers
names_apart [] apart = tt
names_apart (number ∷ numbers) apart = ((λ other there same. apart.0 other there (same_no (segment_name number) (segment_name other) same)), names_apart numbers apart.1)

-- so many objects of numbers of their own
abbrev Within : ℕ → ℕ → Object → Type 0
Within from to object = (from ≤ object.name.no) × (object.name.no < to)

module _ (s : Stored) (coherent : IsCoherent s) (m : Manifest) (same : s.manifest ≡ m) (count : ℕ) (count_is : count ≡ count_of s) (erases : List Pending) (erases_are : erases ≡ pending_of s)
    (heads : List Header) (heads_are : AreHeadersOf s heads) (journal : Journal) (is_journal : IsJournalOf s journal) (flushes : both.Flushes) (are : AreFlushesOf m.config journal erases count m.next heads flushes)
    (writable_older : IsWritable m.next flushes.older) (writable_newer : IsWritable flushes.older.next flushes.newer)
    (made : Reopening) (is : IsStepOf m count erases flushes made) (spelled : HasSpelling made.step.manifest) where
  abbrev older : List StoredFile
  older = are.older.files

  abbrev newer : List StoredFile
  newer = are.newer.files

  abbrev files : List StoredFile
  files = newer ++ older

  abbrev older_is : IsFlushOf m.config are.older.entries erases are.older.alone count m.next flushes.older older
  older_is = are.older.is

  abbrev newer_is : IsFlushOf m.config are.newer.entries erases are.newer.alone count flushes.older.next flushes.newer newer
  newer_is = are.newer.is

  abbrev segment : ℕ
  segment = flushes.newer.next

  -- with all the erases that are pending, and without those that are done
  abbrev whole : Stored
  whole = reopened s files segment (segment + 1)

  abbrev t : Stored
  t = let_go whole

  abbrev olds : List Object
  olds = flushes.older.objects.items

  abbrev news : List Object
  news = flushes.newer.objects.items

  next_is : s.manifest.next ≡ m.next
  next_is = ap (λ (x : Manifest). x.next) same

  low : m.next ≤ flushes.older.next
  low = let at = writable_older.next in omega (arith, at)

  high : flushes.older.next ≤ segment
  high = let at = writable_newer.next in omega (arith, at)

  new_files : AreNewFiles s.manifest.next segment files
  new_files = subst (λ n. AreNewFiles n segment files) (sym next_is) (both_new m.next flushes.older.next segment older newer older_is.new newer_is.new low high)

  abbrev undone : List Pending
  undone = left_beside whole.manifest.files (pending_of s)

  undone_is : made.step.manifest ≡ (leaving whole undone).manifest
  undone_is =
      let cited : cited_with flushes m ≡ whole.manifest.files =
      (λ i. newer_is.cited i ++ older_is.cited i ++ (sym same i).files) ∙ ap (λ l. l ++ s.manifest.files) (sym (map-append cited_of newer older)) in
      is.manifest ∙ (λ i. successor (sym same i) (count_is i) (left_beside (cited i) (erases_are i)) (cited i) segment)

  abbrev undone_spelled : HasSpelling (leaving whole undone).manifest
  undone_spelled = subst HasSpelling undone_is spelled

  erases_are_kept : kept_erases whole ≡ undone
  erases_are_kept = kept_reopened s coherent files segment (segment + 1) (omega (arith, next_is, low, high)) (omega arith) new_files undone undone_spelled

  manifest_is : made.step.manifest ≡ t.manifest
  manifest_is = undone_is ∙ ap (λ l. (leaving whole l).manifest) (sym erases_are_kept)

  next_coherent : IsCoherent t
  next_coherent = subst (λ l. IsCoherent (leaving whole l)) (sym erases_are_kept)
      (leaving_coherent s coherent files segment (segment + 1) (omega (arith, next_is, low, high)) (omega arith) new_files undone undone_spelled)

  -- What is written

  abbrev objects : List Object
  objects = made.step.objects.items

  object_cases : (object : Object) → Contains objects object → (Contains olds object ⊎ Contains news object) ⊎ (empty_segment segment ≡ object)
  object_cases object there = elim (Contains-append_cases (olds ++ news) (empty_segment segment ∷ []) object (subst (λ l. Contains l object) is.objects there)) [
    | inl file ↦ inl (Contains-append_cases olds news object file)
    | inr last ↦ inr (only last)
  ]
    where
      only : Contains (empty_segment segment ∷ []) object → empty_segment segment ≡ object
      only last = one (empty_segment segment) object last

  old_within : (object : Object) → Contains olds object → Within m.next flushes.older.next object
  old_within object there = numbers_of m.next flushes.older.next older older_is.new (named_of object) (object_from older olds older_is.objects object there)

  new_within : (object : Object) → Contains news object → Within flushes.older.next segment object
  new_within object there = numbers_of flushes.older.next segment newer newer_is.new (named_of object) (object_from newer news newer_is.objects object there)

  written_is : written_in made.step ≡ map named_of olds ++ map named_of news ++ named_of (empty_segment segment) ∷ []
  written_is = ap (map named_of) is.objects ∙ map-append named_of (olds ++ news) (empty_segment segment ∷ []) ∙ ap (λ l. l ++ named_of (empty_segment segment) ∷ []) (map-append named_of olds news)

  segment_written : Contains (written_in made.step) (segment_name segment, segment_bytes segment [])
  segment_written = subst (λ l. Contains l (segment_name segment, segment_bytes segment [])) (sym written_is) (Contains-push (map named_of olds ++ map named_of news) (segment_name segment, segment_bytes segment []))

  abbrev objects_next : List (Name × List ℕ)
  objects_next = objects_of t.files

  objects_are : objects_next ≡ objects_of newer ++ objects_of older ++ objects_of s.files
  objects_are = flat_map-append objects_in files s.files ∙ ap (λ l. l ++ objects_of s.files) (flat_map-append objects_in newer older)

  kept_object : (named : Name × List ℕ) → Contains (objects_of s.files) named → Contains objects_next named
  kept_object named there = subst (λ l. Contains l named) (sym objects_are) (Contains-append_right (objects_of newer ++ objects_of older) (objects_of s.files) named there)

  made_object : (named : Name × List ℕ) → Contains (objects_of newer ++ objects_of older) named → Contains objects_next named
  made_object named there = subst (λ l. Contains l named) (sym objects_are) (Contains-append_left (objects_of newer ++ objects_of older) (objects_of s.files) named there)

  from_written : (named : Name × List ℕ) → Contains objects_next named → IsObjectFrom s [] made.step named
  from_written named there = elim (Contains-append_cases (objects_of newer ++ objects_of older) (objects_of s.files) named (subst (λ l. Contains l named) objects_are there)) [
    | inl new ↦ inr (inr (subst (λ l. Contains l named) (sym written_is) (Contains-append_left (map named_of olds ++ map named_of news) (named_of (empty_segment segment) ∷ []) named (elim (Contains-append_cases (objects_of newer) (objects_of older) named new) [
      | inl later ↦ Contains-append_right (map named_of olds) (map named_of news) named (object_to newer news newer_is.objects named later)
      | inr earlier ↦ Contains-append_left (map named_of olds) (map named_of news) named (object_to older olds older_is.objects named earlier)
    ]))))
    | inr old ↦ inl old
  ]

  is_cited : (object : Object) → Contains objects object → Contains (part_names t) object.name
  is_cited object there = elim (object_cases object there) [
    | inl file ↦ elim file [
      | inl old ↦ object_part t (named_of object) (made_object (named_of object) (Contains-append_right (objects_of newer) (objects_of older) (named_of object) (object_from older olds older_is.objects object old)))
      | inr new ↦ object_part t (named_of object) (made_object (named_of object) (Contains-append_left (objects_of newer) (objects_of older) (named_of object) (object_from newer news newer_is.objects object new)))
    ]
    | inr last ↦ subst (λ (o : Object). Contains (part_names t) o.name) last (active_part t)
  ]

  is_fresh : (object : Object) → Contains objects object → s.manifest.next ≤ object.name.no
  is_fresh object there = elim (object_cases object there) [
    | inl file ↦ elim file [
      | inl old ↦ let at = (old_within object old).0 in omega (arith, next_is, at)
      | inr new ↦ let at = (new_within object new).0 in omega (arith, next_is, low, at)
    ]
    | inr last ↦ let at : segment ≡ object.name.no = ap (λ (o : Object). o.name.no) last in omega (arith, next_is, low, high, at)
  ]

  once : AllPairs (λ (a b : Object). a.name ≢ b.name) objects
  once =
      let Apart : Object → Object → Type 0 = λ a b. a.name ≢ b.name in
      let files_apart : Pairs Apart (olds ++ news) = pairs_append Apart olds news (pairs_from Apart olds older_is.once) (pairs_from Apart news newer_is.once) (λ a b left right clash.
      let up = (old_within a left).1 in
      let down = (new_within b right).0 in
      let equal = same_no a.name b.name clash in
      omega (arith, up, down, equal)) in
      let all : Pairs Apart (olds ++ news ++ empty_segment segment ∷ []) = pairs_append Apart (olds ++ news) (empty_segment segment ∷ []) files_apart ((λ b none. absurd (nothing b none)), tt) (λ a b left right clash.
      let last : segment ≡ b.name.no = ap (λ (o : Object). o.name.no) (one (empty_segment segment) b right) in
      let equal = same_no a.name b.name clash in
      elim (Contains-append_cases olds news a left) [
        | inl old ↦ let up = (old_within a old).1 in omega (arith, up, high, last, equal)
        | inr new ↦ let up = (new_within a new).1 in omega (arith, up, last, equal)
      ]) in
      subst (AllPairs Apart) (sym is.objects) (pairs_to Apart (olds ++ news ++ empty_segment segment ∷ []) all)

  -- What goes

  gone_is : made.step.gone.items ≡ map segment_name (segment_numbers s)
  gone_is = is.gone ∙ ap (λ (x : Manifest). map segment_name x.segments) (sym same) ∙ ap (map segment_name) coherent.cites

  goes : (name : Name) → Contains made.step.gone.items name → IsUncited s [] t name
  goes name there =
      let listed : Contains (map segment_name (segment_numbers s)) name = subst (λ l. Contains l name) gone_is there in
      let old : Contains (part_names s) name = Contains-append_left (map segment_name (segment_numbers s)) (map (λ (named : Name × List ℕ). named.0) (objects_of s.files)) name listed in
      let below = part_below s name coherent old in
      let number = from_map segment_name (segment_numbers s) name listed in (
        inl old,
        λ again. elim (Contains-append_cases (segment_name segment ∷ []) (map (λ (named : Name × List ℕ). named.0) objects_next) name again) [
          | inl active ↦ let at : segment ≡ name.no = ap (λ (n : Name). n.no) (one (segment_name segment) name active) in omega (arith, below, next_is, low, high, at)
          | inr object ↦ let named = from_map (λ (named : Name × List ℕ). named.0) objects_next name object in object_apart t number.0 named.0 named.1 (named.2 ∙ sym number.2)
        ],
      )

  stays : (name : Name) → Contains (part_names s) name → IsSettledBy made.step t [] name
  stays name there = elim (Contains-append_cases (map segment_name (segment_numbers s)) (map (λ (named : Name × List ℕ). named.0) (objects_of s.files)) name there) [
    | inl listed ↦ inr (inl (subst (λ l. Contains l name) (sym gone_is) listed))
    | inr object ↦
        let named = from_map (λ (named : Name × List ℕ). named.0) (objects_of s.files) name object in
        inl (subst (Contains (part_names t)) named.2 (object_part t named.0 (kept_object named.0 named.1)))
  ]

  gone_once : AllPairs (λ (a b : Name). a ≢ b) made.step.gone.items
  gone_once =
      let numbers : Pairs (λ (a b : ℕ). a ≢ b) (segment_numbers s) = subst (Pairs (λ (a b : ℕ). a ≢ b)) coherent.cites (pairs_from (λ (a b : ℕ). a ≢ b) s.manifest.segments coherent.once) in
      subst (AllPairs (λ (a b : Name). a ≢ b)) (sym gone_is) (pairs_to (λ (a b : Name). a ≢ b) (map segment_name (segment_numbers s)) (pairs_map (λ (a b : Name). a ≢ b) segment_name (segment_numbers s) (names_apart (segment_numbers s) numbers)))

  -- The files

  kept_is : kept_files s made.step ≡ s.files
  kept_is = filter_all (λ (file : StoredFile). is_kept made.step.merged.items file.header) s.files (all_from (λ (file : StoredFile). is_kept made.step.merged.items file.header ≡ true) s.files (λ file there. ap (λ l. is_kept l file.header) is.merged))

  is_step : IsStep s [] t [] made.headers.items made.step
  is_step = record {
    coherent = next_coherent;
    config = refl;
    older = is.older ∙ ap (λ (x : Manifest). x.no) (sym same);
    manifest = manifest_is;
    later = omega (arith, next_is, low, high);
    fresh = all_from (λ (object : Object). s.manifest.next ≤ object.name.no) objects is_fresh;
    once = once;
    loose_pages = All-nil (λ (named : Name × List ℕ). named.0.kind ≡ Page);
    loose_uncited = All-nil (λ (named : Name × List ℕ). IsCited s named.0 → ⊥);
    beside = all_from (λ (object : Object). Contains (names_in []) object.name → ⊥) objects (λ object there among. none_in object.name among);
    segments = All-cons (IsSegmentFrom s made.step) t.active [] (inr segment_written) (All-nil (IsSegmentFrom s made.step));
    objects = all_from (IsObjectFrom s [] made.step) objects_next from_written;
    cited = all_from (λ (object : Object). Contains (part_names t) object.name) objects is_cited;
    stays = all_from (IsSettledBy made.step t []) (part_names s) stays;
    taken = All-nil (λ (named : Name × List ℕ). IsSettledBy made.step t [] named.0);
    gone = all_from (IsUncited s [] t) made.step.gone.items goes;
    gone_once = gone_once;
    left_there = All-nil (WasThere s []);
    left_stays = All-nil (λ (named : Name × List ℕ). Contains made.step.gone.items named.0 → ⊥);
    left_uncited = All-nil (λ (named : Name × List ℕ). IsCited t named.0 → ⊥);
    added = files;
    headers_are = is.headers ∙ (λ i. newer_is.headers i ++ older_is.headers i) ∙ sym (map-append new_header newer older);
    files = subst (λ l. IsPermutation (files ++ l) (files ++ s.files)) (sym kept_is) (IsPermutation-refl (files ++ s.files));
  }

  -- The history

  headers_older : headers_of flushes.older ≡ map (λ (file : StoredFile). file.header) older
  headers_older = headers_made flushes.older older older_is.headers

  abbrev first : Layout
  first = layouts.flushed (layout_of s) (map file_of older)

  files_are : files_of (frozen first) ≡ map file_of older ++ files_of (layout_of s)
  files_are = append_assoc (map file_of older) _ _

  stands : (h : History) → IsFor h s → IsFor h t
  stands h for =
      let upto : count ≡ length h = count_is ∙ for.count in
      let flushes_older : Flushes h (layout_of s) (map file_of older) =
      flushes_of h (layout_of s) journal.older erases count m.next heads m.config flushes.older are.older (frozen_are s.frozen ∙ ap (map plain) (sym is_journal.older)) erases_are upto
      (stored_clear s coherent heads heads_are.each) (stored_below s coherent m.next (omega (arith, next_is))) in
      let below : All (λ (file : File). file.no < flushes.older.next) (files_of (frozen first)) =
      subst (All (λ (file : File). file.no < flushes.older.next)) (sym files_are) (All-append (λ (file : File). file.no < flushes.older.next) (map file_of older) (files_of (layout_of s))
      (all_from (λ (file : File). file.no < flushes.older.next) (map file_of older) (λ file there.
      let found = from_map file_of older file there in
      let lt = (All-contains (λ (f : StoredFile). (m.next ≤ f.header.no) × (f.header.no < flushes.older.next)) older found.0 older_is.new.headers found.1).1 in
      subst (λ (file : File). file.no < flushes.older.next) found.2 lt))
      (stored_below s coherent flushes.older.next (omega (arith, next_is, low)))) in
      let flushes_newer : Flushes h (frozen first) (map file_of newer) =
      flushes_of h (frozen first) journal.newer erases count flushes.older.next (heads ++ headers_of flushes.older) m.config flushes.newer are.newer (ap (map plain) (sym is_journal.newer)) erases_are upto
      (λ keys free. subst (All (moves.IsClearOf keys)) (sym files_are) (All-append (moves.IsClearOf keys) (map file_of older) (files_of (layout_of s))
      (new_clear keys older (subst (All (clear.IsClearOf keys)) headers_older (all_right (clear.IsClearOf keys) heads (headers_of flushes.older) free)))
      (stored_clear s coherent heads heads_are.each keys (all_left (clear.IsClearOf keys) heads (headers_of flushes.older) free)))) below in
      kept_for whole h (reopened_for s older newer segment (segment + 1) h coherent for older_is.new.level newer_is.new.level flushes_older flushes_newer)

  -- What is stored next

  is_reopened : IsReopenedAs s t
  is_reopened =
      let config_is = ap (λ (x : Manifest). x.config) (sym same) in
      let there : (keys : KeyRange) → All (clear.IsClearOf keys) heads ↔ All (λ (file : StoredFile). clear.IsClearOf keys file.header) s.files = λ keys. heads_same (clear.IsClearOf keys) s heads heads_are in
      record {
        older = older;
        middle = flushes.older.next;
        of_older = subst (λ n. AreFiled s (records_in s.frozen) s.files n flushes.older.next older) (sym next_is)
            (filed_of s journal.older (records_in s.frozen) erases count m.next heads s.files m.config flushes.older are.older config_is is_journal.older erases_are count_is there);
        newer = newer;
        segment = segment;
        of_newer =
            filed_of s journal.newer s.active.records erases count flushes.older.next (heads ++ headers_of flushes.older) (older ++ s.files) m.config flushes.newer are.newer config_is is_journal.newer erases_are count_is
            (λ keys. heads_more (clear.IsClearOf keys) heads (headers_of flushes.older) older s.files headers_older (there keys));
        is = refl;
      }

  pub reopens : Reopens s made
  reopens = record { files = files; segment = segment; reopened_as = is_reopened; step = is_step; stands = stands; level = new_files.level; segment_is = segment_written }
