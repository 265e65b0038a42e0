-- What an audit's yes means.
use Rattle.std.proofs.Common.{◌≡◌, ◌⊎◌, inl, inr, ℕ, ◌+◌, ◌<◌, ◌≤◌, List, [], ◌∷◌, ◌++◌, map, Contains, All, Option, Some, None, refl, sym, ap, ◌∙◌, subst, arith}
use Rattle.std.specs.Prelude.{Any, IfSome, filter_map, flat_map, is_some, option_map, option_to_list, zip}
use Rattle.std.specs.FinMap.{keys}
use Rattle.std.specs.List.{AllZip}
use Rattle.std.proofs.Math.Logic.{⊎_elim}
use Rattle.std.proofs.lemmas.List.Elements.{All-contains, Contains-append_cases, Contains-append_left, Contains-append_right, Contains-push, filter_map-append}
use Rattle.lethe_base.specs.Causes.{cause_of, done_at, erased}
use Rattle.lethe_base.specs.Covered.{IsCovered, IsNoErase}
use Rattle.lethe_base.specs.Held.{Holds, InFiles, Shows}
use Rattle.lethe_base.specs.History.{History, clock_before}
use Rattle.lethe_base.specs.Layout.{Layout, Written, files_of}
use Rattle.lethe_base.specs.Layout as layout
use Rattle.lethe_base.specs.Matching.{IsPut}
use Rattle.lethe_base.specs.Ranges.{Ends}
use Rattle.lethe_base.specs.declared.call.Call.{Call}
use Rattle.lethe_base.specs.declared.call.Call.TheVariants.{Put, Delete, Erase, Tick, Work}
use Rattle.lethe_base.specs.declared.config.Fields.{Fields}
use Rattle.lethe_base.specs.declared.entry.Entry.{Entry}
use Rattle.lethe_base.specs.declared.name.Kind.TheVariants as kinds
use Rattle.lethe_base.specs.declared.name.Name.{Name}
use Rattle.lethe_base.specs.declared.pending.Pending.{Pending}
use Rattle.lethe_base.proofs.HeldLaws.{shown_held}
use Rattle.lethe_base.proofs.LayoutLaws.{none_in}
use Rattle.lethe_base.proofs.Newest.{first_is, first_or_rest}
use Rattle.lethe_cert.specs.declared.certificate.Certificate.{Certificate}
use Rattle.lethe_commit.specs.Append.{HasRecords}
use Rattle.lethe_commit.specs.Gates.{gate_name}
use Rattle.lethe_commit.specs.Switch.{HasGreatest, manifest_name}
use Rattle.lethe_commit.proofs.Listed.{listed}
use Rattle.lethe_cover.proofs.Lists.{flat_from, flat_in, in_map, in_rest, map_from, only_in}
use Rattle.lethe_disk.specs.Directory.{Directory, object}
use Rattle.lethe_disk.proofs.Objects.{one_object}
use Rattle.lethe_file.specs.Agreement.{Agrees, page_name}
use Rattle.lethe_file.specs.Agreement as agreement
use Rattle.lethe_follows.proofs.Following.{file_from, file_in}
use Rattle.lethe_header.specs.Facts.{lines_of}
use Rattle.lethe_header.specs.Headers.{header_bytes}
use Rattle.lethe_header.specs.declared.header.Header.{Header}
use Rattle.lethe_header.specs.declared.header.PageLine.{PageLine}
use Rattle.lethe_header.proofs.HeaderLaws.{same_header}
use Rattle.lethe_manifest.specs.declared.manifest.Cited.{Cited}
use Rattle.lethe_manifest.specs.declared.manifest.Manifest.{Manifest}
use Rattle.lethe_page.proofs.PageLaws.{same_page}
use Rattle.lethe_segment.specs.declared.record.Record.{Record}
use Rattle.lethe_segment.specs.declared.record.Record.TheVariants as of
use Rattle.lethe_segment.specs.Segments.{Ascends, segment_bytes}
use Rattle.lethe_segment.specs.Holding as holding
use Rattle.lethe_segment.proofs.Runs.{holds_spelling, same_held}
use Rattle.lethe_stored.specs.Clean.{IsHeldIn, Spells, SpellsPage, SpellsSegment, entry_of}
use Rattle.lethe_stored.specs.Encodes.{Encodes, HasObject, HasSegment}
use Rattle.lethe_stored.specs.Files.{StoredFile, IsFile, cited_of, file_name, file_of, lines_in, objects_in, objects_of}
use Rattle.lethe_stored.specs.Kept.{IsEncoded, IsFor, IsKept, certificates}
use Rattle.lethe_stored.specs.Stored.{Stored, Segment, IsCoherent, certificate_number, erase_of, layout_of, number_of, pending_of, plain, records_in, records_of, segment_name, segment_numbers}
use Rattle.lethe_stored.proofs.FileFacts.{as_many, entries_are}
use Rattle.lethe_stored.proofs.InOrder.{all_in_order}
use Rattle.lethe_stored.proofs.Leveled.{low_level}
use Rattle.lethe_stored.proofs.Lists.{in_flat}
use Rattle.lethe_stored.proofs.Meanings.{frozen_are}
use Rattle.lethe_stored.proofs.Unique.{none_or_some, one_greatest}
use Rattle.lethe_load.specs.Damaged.{IsHeaderOf, IsSpelled}
use Rattle.lethe_audit.specs.Audited.{IsAudited, IsLate, IsWhole, IsYoung, last_of}
use Rattle.lethe_audit.specs.Carried.{Carries, IsCarried, IsCarriedBy, IsCarriedIn, IsTrueOf}
use Rattle.lethe_audit.specs.Held.{AreHeld, ArePending, HasAllRecords}
use Rattle.lethe_audit.specs.Objects.{Citation, IsCitedBy, IsIntact, IsOfFile, segments_in}
use Rattle.lethe_audit.proofs.OneAnswer.{one_spelled}
use Rattle.lethe_audit.proofs.Spelled.{held_all, zip_right_of}

-- Kept is carried

kept_by : (h : History) (s : Stored) → IsFor h s → IsCarriedBy h s
kept_by h s stands = record {
  legal = stands.legal;
  done = stands.done;
  carries = record {
    places = stands.covers.places;
    newer_above = stands.covers.newer_above;
    same_map = stands.covers.same_map;
    deletes_covered = stands.covers.deletes_covered;
    erases_covered = stands.covers.erases_covered;
    times = record {
      entries = λ entry swept since held has. let is = stands.covers.times_fresh.entries entry swept since held has in record { place = is.place; call = is.call; done = is.done; erasure = is.erasure; timed = is.timed };
      erases = λ erase told. let is = stands.covers.times_fresh.erases erase told in record { place = is.place; call = is.call; done = is.done; erasure = is.erasure; timed = is.timed };
    };
  };
  shape = stands.shape;
  clock = stands.clock;
  count = stands.count;
  certificate = stands.certificate;
}

pub kept_carried : (config : Fields) (h : History) (d : Directory) → IsKept config d h → IsCarried config d h
kept_carried config h d (inl none) = inl none
kept_carried config h d (inr k) = inr (record { s = k.s; config_is = k.config_is; coherent = k.coherent; encodes = k.encodes; carried = kept_by h k.s k.stands })

-- Lists

-- an entry of a segment's records is one of its layout's, and the other way round
entry_recorded : (records : List Record) (entry : Entry) → Contains (filter_map entry_of records) entry → Contains (map plain records) (Written entry)
entry_recorded [] entry there = absurd (none_in entry there)
entry_recorded (of.Entry first ∷ records) entry there = ⊎_elim (λ (same : first ≡ entry). first_is (Written first) (map plain records) (Written entry) (ap (λ e. Written e) same))
    (λ rest. in_rest (Written first) (map plain records) (Written entry) (entry_recorded records entry rest)) (first_or_rest first (filter_map entry_of records) entry there)
entry_recorded (of.Blind place ∷ records) entry there = in_rest (layout.Blind place) (map plain records) (Written entry) (entry_recorded records entry there)
entry_recorded (of.Erase erase ∷ records) entry there = in_rest (layout.Erasing erase) (map plain records) (Written entry) (entry_recorded records entry there)

recorded_entry : (records : List Record) (entry : Entry) → Contains (map plain records) (Written entry) → Contains (filter_map entry_of records) entry
recorded_entry [] entry there = absurd (none_in (Written entry) there)
recorded_entry (of.Entry first ∷ records) entry there = ⊎_elim (λ (same : Written first ≡ Written entry). first_is first (filter_map entry_of records) entry cc)
    (λ rest. in_rest first (filter_map entry_of records) entry (recorded_entry records entry rest)) (first_or_rest (Written first) (map plain records) (Written entry) there)
recorded_entry (of.Blind place ∷ records) entry there = ⊎_elim (λ (same : layout.Blind place ≡ Written entry). absurd cc) (recorded_entry records entry) (first_or_rest (layout.Blind place) (map plain records) (Written entry) there)
recorded_entry (of.Erase erase ∷ records) entry there = ⊎_elim (λ (same : layout.Erasing erase ≡ Written entry). absurd cc) (recorded_entry records entry) (first_or_rest (layout.Erasing erase) (map plain records) (Written entry) there)

-- the page of a line, and a page's line
page_of : (lines : List PageLine) (pages : List (List ℕ)) (line : PageLine) → AllZip Agrees lines pages → Contains lines line → (page : List ℕ) × Contains (zip lines pages) (line, page) × Contains pages page × Agrees line page
page_of [] pages line agrees there = absurd (none_in line there)
page_of (first ∷ lines) [] line agrees there = absurd agrees
page_of (first ∷ lines) (page ∷ pages) line agrees there = ⊎_elim
    (λ (same : first ≡ line). (page, first_is (first, page) (zip lines pages) (line, page) (ap (λ l. (l, page)) same), first_is page pages page refl, subst (λ l. Agrees l page) same agrees.0))
    (λ rest. let more = page_of lines pages line agrees.1 rest in (more.0, in_rest (first, page) (zip lines pages) (line, more.0) more.1, in_rest page pages more.0 more.2, more.3))
    (first_or_rest first lines line there)

line_of : (lines : List PageLine) (pages : List (List ℕ)) (page : List ℕ) → AllZip Agrees lines pages → Contains pages page → (line : PageLine) × Contains (zip lines pages) (line, page) × Agrees line page
line_of lines [] page agrees there = absurd (none_in page there)
line_of [] (first ∷ pages) page agrees there = absurd agrees
line_of (line ∷ lines) (first ∷ pages) page agrees there = ⊎_elim
    (λ (same : first ≡ page). (line, first_is (line, first) (zip lines pages) (line, page) (ap (λ p. (line, p)) same), subst (Agrees line) same agrees.0))
    (λ rest. let more = line_of lines pages page agrees.1 rest in (more.0, in_rest (line, first) (zip lines pages) (more.0, page) more.1, more.2))
    (first_or_rest first pages page there)

-- What the objects hold is the layout's, where all are cited and segments have no torn end

module _ (d : Directory) (s : Stored) (coherent : IsCoherent s) (encodes : Encodes d s) where
  abbrev l : Layout
  l = layout_of s

  -- a segment's records, read strictly, are those that it is replayed as
  strict_records : (segment : Segment) (records : List Record) → Ascends 0 segment.records → Ascends 0 records → HasSegment d segment → object d (segment_name segment.no) ≡ Some (segment_bytes segment.no records) → records ≡ segment.records
  strict_records segment records up also has there =
      (same_held has.bytes segment.no segment.no records segment.records
      (subst (holding.Holds segment.no records) (one_object (object d (segment_name segment.no)) _ has.bytes there has.there) (holds_spelling segment.no records)) has.holds also up).0

  spelled_records : (segment : Segment) (bytes : List ℕ) (entries : List Entry) → Ascends 0 segment.records → HasSegment d segment → object d (segment_name segment.no) ≡ Some bytes → SpellsSegment segment.no bytes entries
      → entries ≡ filter_map entry_of segment.records
  spelled_records segment bytes entries up has there spelled =
      spelled.those ∙ ap (filter_map entry_of) (strict_records segment spelled.records up spelled.ascends has (there ∙ ap Some spelled.is))

  -- Each segment that is cited is the active or the frozen one

  data IsSegment (number : ℕ) : Type 0 where
    Active : s.active.no ≡ number → IsSegment number
    Frozen : (older : Segment) → s.frozen ≡ Some older → older.no ≡ number → IsSegment number

  segment_cases : (number : ℕ) → Contains s.manifest.segments number → IsSegment number
  segment_cases number there = ⊎_elim (older s.frozen refl) (λ last. Active (only_in s.active.no number last))
      (Contains-append_cases (map number_of (option_to_list s.frozen)) (s.active.no ∷ []) number (subst (λ numbers. Contains numbers number) coherent.cites there))
    where
      older : (o : Option Segment) → s.frozen ≡ o → Contains (map number_of (option_to_list o)) number → IsSegment number
      older None is there = absurd (none_in number there)
      older (Some segment) is there = Frozen segment is (only_in segment.no number there)

  active_cited : Contains s.manifest.segments s.active.no
  active_cited = subst (λ numbers. Contains numbers s.active.no) (sym coherent.cites) (Contains-push (map number_of (option_to_list s.frozen)) s.active.no)

  frozen_cited : (older : Segment) → s.frozen ≡ Some older → Contains s.manifest.segments older.no
  frozen_cited older is = subst (λ numbers. Contains numbers older.no) (sym coherent.cites)
      (subst (λ o. Contains (map number_of (option_to_list o) ++ s.active.no ∷ []) older.no) (sym is) (first_is older.no (s.active.no ∷ []) older.no refl))

  frozen_up : (older : Segment) → s.frozen ≡ Some older → Ascends 0 older.records
  frozen_up older is = subst (λ o. Ascends 0 (records_in o)) is coherent.frozen

  frozen_there : (older : Segment) → s.frozen ≡ Some older → HasSegment d older
  frozen_there older is = by s.frozen is encodes.parts.frozen
    where
      by : (o : Option Segment) → o ≡ Some older → IfSome o (HasSegment d) → HasSegment d older
      by None e has = absurd cc
      by (Some first) e has = let same : first ≡ older = cc in subst (HasSegment d) same has

  -- From the objects to the layout

  held_active : (entry : Entry) → Contains (filter_map entry_of s.active.records) entry → (swept : ℕ) × Holds l entry swept
  held_active entry there = (0, inl (inl (entry_recorded s.active.records entry there), refl))

  held_frozen : (older : Segment) → s.frozen ≡ Some older → (entry : Entry) → Contains (filter_map entry_of older.records) entry → (swept : ℕ) × Holds l entry swept
  held_frozen older is entry there = (
    0,
    inl (
      inr (subst (λ records. Contains records (Written entry)) (sym (frozen_are s)) (subst (λ o. Contains (map plain (records_in o)) (Written entry)) (sym is) (entry_recorded older.records entry there))),
      refl,
    ),
  )

  segment_held : (number : ℕ) (bytes : List ℕ) (entries : List Entry) → Contains s.manifest.segments number → object d (segment_name number) ≡ Some bytes → SpellsSegment number bytes entries
      → (entry : Entry) → Contains entries entry → (swept : ℕ) × Holds l entry swept
  segment_held number bytes entries cited there spelled entry among = by (segment_cases number cited)
    where
      by : IsSegment number → (swept : ℕ) × Holds l entry swept
      by (Active same) = held_active entry (subst (λ list. Contains list entry)
          (spelled_records s.active bytes entries coherent.active encodes.parts.active (subst (λ n. object d (segment_name n) ≡ Some bytes) (sym same) there) (subst (λ n. SpellsSegment n bytes entries) (sym same) spelled)) among)
      by (Frozen older is same) = held_frozen older is entry (subst (λ list. Contains list entry)
          (spelled_records older bytes entries (frozen_up older is) (frozen_there older is) (subst (λ n. object d (segment_name n) ≡ Some bytes) (sym same) there) (subst (λ n. SpellsSegment n bytes entries) (sym same) spelled)) among)

  -- a page of a stored file has entries of the file
  file_entry : (file : StoredFile) → Contains s.files file → (page : List ℕ) → Contains file.pages page → (entry : Entry) → Contains (agreement.entries_in page) entry → InFiles (files_of l) entry
  file_entry file cited page there entry inside =
      let is = All-contains (IsFile s.manifest.next) s.files file coherent.each cited in
      let all = entries_are file.header.tiles file.pages (as_many (lines_of file.header.tiles) file.pages is.agrees.pages) in
      record {
        file = file_of file;
        there = file_in s.manifest.config.levels s.files file cited (low_level s coherent file cited);
        spelled = subst (λ list. Contains list entry) (sym all) (in_flat agreement.entries_in file.pages page entry there inside);
      }

  object_there : (file : StoredFile) (named : Name × List ℕ) → Contains s.files file → Contains (objects_in file) named → object d named.0 ≡ Some named.1
  object_there file named cited inside = All-contains (HasObject d) (objects_of s.files) named encodes.parts.files (flat_in objects_in s.files file named cited inside)

  page_there : (file : StoredFile) (line : PageLine) (page : List ℕ) → Contains s.files file → Contains (zip (lines_in file) file.pages) (line, page) → object d (page_name line.no) ≡ Some page
  page_there file line page cited inside = object_there file (page_name line.no, page) cited
      (in_rest (file_name file.header.no, header_bytes file.header) (map (λ (p : PageLine × List ℕ). (page_name p.0.no, p.1)) (zip (lines_in file) file.pages)) (page_name line.no, page)
      (in_map (λ (p : PageLine × List ℕ). (page_name p.0.no, p.1)) (zip (lines_in file) file.pages) (line, page) inside))

  page_held : (file : StoredFile) → Contains s.files file → (line : PageLine) → Contains (lines_in file) line → (bytes : List ℕ) (entries : List Entry) → object d (page_name line.no) ≡ Some bytes → SpellsPage bytes entries
      → (entry : Entry) → Contains entries entry → (swept : ℕ) × Holds l entry swept
  page_held file cited line among bytes entries there spelled entry inside =
      let is = All-contains (IsFile s.manifest.next) s.files file coherent.each cited in
      let page = page_of (lines_in file) file.pages line is.agrees.pages among in
      let same : bytes ≡ page.0 = one_object (object d (page_name line.no)) bytes page.0 there (page_there file line page.0 cited page.1) in
      let lists : entries ≡ agreement.entries_in page.0 =
      (same_page spelled.class line.class entries (agreement.entries_in page.0) spelled.spelled page.3.page.spelled (sym spelled.is ∙ same ∙ page.3.spelled)).1 in
      let filed = file_entry file cited page.0 page.2 entry (subst (λ list. Contains list entry) lists inside) in
      (filed.file.swept, inr (filed, refl))

  -- a file that is cited is stored, with its header
  stored_file : (cited : Cited) (header : Header) → Contains s.manifest.files cited → IsHeaderOf d cited header → (file : StoredFile) × Contains s.files file × (file.header ≡ header)
  stored_file cited header there is =
      let file = map_from cited_of s.files cited (subst (λ files. Contains files cited) coherent.files there) in
      let fits = All-contains (IsFile s.manifest.next) s.files file.0 coherent.each file.1 in
      let own : file.0.header.no ≡ cited.no = ap (λ (c : Cited). c.no) file.2 in
      let here : object d (file_name file.0.header.no) ≡ Some (header_bytes file.0.header) =
      object_there file.0 (file_name file.0.header.no, header_bytes file.0.header) file.1 (first_is (file_name file.0.header.no, header_bytes file.0.header) _ (file_name file.0.header.no, header_bytes file.0.header) refl) in (
        file.0,
        file.1,
        same_header file.0.header header fits.spelled is.spelled (one_object (object d (file_name cited.no)) _ _ (subst (λ n. object d (file_name n) ≡ Some (header_bytes file.0.header)) own here) is.there),
      )

  -- the entries of an object that is cited
  module _ (bytes : List ℕ) (entries : List Entry) (entry : Entry) (among : Contains entries entry) where
    abbrev IsHeldHere : Name → Type 0
    IsHeldHere name = object d name ≡ Some bytes → Spells name.kind name.no bytes entries → (swept : ℕ) × Holds l entry swept

    no_entry : entries ≡ [] → (swept : ℕ) × Holds l entry swept
    no_entry none = absurd (none_in entry (subst (λ list. Contains list entry) none among))

    file_held : (name : Name) (cited : Cited) → Contains s.manifest.files cited → IsOfFile d name cited → IsHeldHere name
    file_held name cited there is = elim is.2 [
      | inl header ↦ subst IsHeldHere (sym header) (λ here spelled. no_entry spelled.1)
      | inr page ↦
          let stored = stored_file cited is.0 there is.1 in
          let line = map_from (λ (line : PageLine). page_name line.no) (lines_of (is.0).tiles) name page in
          subst IsHeldHere line.2 (λ here spelled. page_held stored.0 stored.1 line.0 (subst (λ (h : Header). Contains (lines_of h.tiles) line.0) (sym stored.2) line.1) bytes entries here spelled entry among)
    ]

    cited_held : (name : Name) → IsCitedBy d s.manifest name → IsHeldHere name
    cited_held name (inl gate) = subst IsHeldHere (sym gate) (λ here spelled. no_entry spelled.1)
    cited_held name (inr (inl manifest)) = subst IsHeldHere (sym manifest) (λ here spelled. no_entry spelled.1)
    cited_held name (inr (inr (inl segment))) =
        let number = map_from segment_name s.manifest.segments name segment in
        subst IsHeldHere number.2 (λ here spelled. segment_held number.0 bytes entries number.1 here spelled entry among)
    cited_held name (inr (inr (inr any))) = file_held name any.1 (any.0, any.2, any.3) any.4

  pub held_stored : All (IsCitedBy d s.manifest) (keys d) → (entry : Entry) → IsHeldIn d entry → (swept : ℕ) × Holds l entry swept
  held_stored cited entry is = cited_held is.bytes is.entries entry is.among is.name
      (All-contains (IsCitedBy d s.manifest) (keys d) is.name cited ((listed d is.name).1 (ap is_some is.there))) is.there is.spelled

  -- From the layout to the objects

  segment_spelled : (segment : Segment) → IsIntact d (record { name = segment_name segment.no; digest = None }) → Ascends 0 segment.records → HasSegment d segment → (entry : Entry) → Contains (map plain segment.records) (Written entry) → IsHeldIn d entry
  segment_spelled segment intact up has entry there = record {
    name = segment_name segment.no;
    bytes = intact.bytes;
    there = intact.there;
    entries = intact.spelled.0;
    spelled = intact.spelled.1;
    among = subst (λ list. Contains list entry) (sym (spelled_records segment intact.bytes intact.spelled.0 up has intact.there intact.spelled.1)) (recorded_entry segment.records entry there);
  }

  file_spelled : (entry : Entry) → InFiles (files_of l) entry → IsHeldIn d entry
  file_spelled entry filed =
      let file = file_from s.manifest.config.levels s.files filed.file filed.there in
      let is = All-contains (IsFile s.manifest.next) s.files file.0 coherent.each file.1 in
      let all = entries_are file.0.header.tiles file.0.pages (as_many (lines_of file.0.header.tiles) file.0.pages is.agrees.pages) in
      let inside : Contains (layout.entries_of (file_of file.0)) entry = subst (λ f. Contains (layout.entries_of f) entry) (sym file.3) filed.spelled in
      let page = flat_from agreement.entries_in file.0.pages entry (subst (λ list. Contains list entry) all inside) in
      let line = line_of (lines_in file.0) file.0.pages page.0 is.agrees.pages page.1 in
      record {
        name = page_name line.0.no;
        bytes = page.0;
        there = page_there file.0 line.0 page.0 file.1 line.1;
        entries = agreement.entries_in page.0;
        spelled = record { class = line.0.class; spelled = line.2.page.spelled; is = line.2.spelled };
        among = page.2;
      }

  pub stored_held : All (IsIntact d) (segments_in s.manifest) → (entry : Entry) (swept : ℕ) → Holds l entry swept → IsHeldIn d entry
  stored_held intact entry swept (inr filed) = file_spelled entry filed.0
  stored_held intact entry swept (inl recorded) = elim recorded.0 [
    | inl active ↦ segment_spelled s.active (intact_of s.active.no active_cited) coherent.active encodes.parts.active entry active
    | inr frozen ↦ in_frozen s.frozen refl (subst (λ records. Contains records (Written entry)) (frozen_are s) frozen)
  ]
    where
      intact_of : (number : ℕ) → Contains s.manifest.segments number → IsIntact d (record { name = segment_name number; digest = None })
      intact_of number there = All-contains (IsIntact d) (segments_in s.manifest) (record { name = segment_name number; digest = None }) intact
          (in_map (λ number. record { name = segment_name number; digest = None }) s.manifest.segments number there)

      in_frozen : (o : Option Segment) → s.frozen ≡ o → Contains (map plain (records_in o)) (Written entry) → IsHeldIn d entry
      in_frozen None is there = absurd (none_in (Written entry) there)
      in_frozen (Some older) is there = segment_spelled older (intact_of older.no (frozen_cited older is)) (frozen_up older is) (frozen_there older is) entry there

  -- The erases that are pending

  erases_of : (erases : List Pending) → ArePending d s.manifest erases → (segment : Segment) → Contains s.manifest.segments segment.no → Ascends 0 segment.records → HasSegment d segment
      → (erase : Pending) → Contains (filter_map erase_of segment.records) erase → Contains erases erase
  erases_of erases are segment cited up has erase there =
      let list = zip_right_of (HasAllRecords d) s.manifest.segments are.segments segment.no are.each cited in
      let same : list.0 ≡ segment.records = strict_records segment list.0 up list.2.ascends has list.2.there in
      subst (λ l. Contains l erase) (sym are.joined) (Contains-append_right s.manifest.erases (flat_map (filter_map erase_of) are.segments) erase
      (flat_in (filter_map erase_of) are.segments list.0 erase list.1 (subst (λ records. Contains (filter_map erase_of records) erase) (sym same) there)))

  pub pending_told : (P : Pending → Type 0) (erases : List Pending) → ArePending d s.manifest erases → All P erases → (erase : Pending) → Contains (pending_of s) erase → P erase
  pending_told P erases are all erase there =
      All-contains P (pending_of s) erase (all_in_order P (s.manifest.erases ++ filter_map erase_of (records_of s)) (λ other among. All-contains P erases other all (told other among))) there
    where
      in_records : (older newer : List Record) (other : Pending) → Contains (filter_map erase_of (older ++ newer)) other → Contains (filter_map erase_of older) other ⊎ Contains (filter_map erase_of newer) other
      in_records older newer other among =
          Contains-append_cases (filter_map erase_of older) (filter_map erase_of newer) other (subst (λ l. Contains l other) (filter_map-append erase_of older newer) among)

      in_older : (o : Option Segment) → s.frozen ≡ o → (other : Pending) → Contains (filter_map erase_of (records_in o)) other → Contains erases other
      in_older None is other among = absurd (none_in other among)
      in_older (Some older) is other among = erases_of erases are older (frozen_cited older is) (frozen_up older is) (frozen_there older is) other among

      told : (other : Pending) → Contains (s.manifest.erases ++ filter_map erase_of (records_of s)) other → Contains erases other
      told other among = elim (Contains-append_cases s.manifest.erases (filter_map erase_of (records_of s)) other among) [
        | inl first ↦ subst (λ l. Contains l other) (sym are.joined) (Contains-append_left s.manifest.erases (flat_map (filter_map erase_of) are.segments) other first)
        | inr records ↦ elim (in_records (records_in s.frozen) s.active.records other records) [
          | inl older ↦ in_older s.frozen refl other older
          | inr newer ↦ erases_of erases are s.active active_cited coherent.active encodes.parts.active other newer
        ]
      ]

-- Nothing that is held was erased by then

module _ (h : History) (d : Directory) (s : Stored) (coherent : IsCoherent s) (encodes : Encodes d s) (carried : IsCarriedBy h s) (before : ℕ)
    (cited : All (IsCitedBy d s.manifest) (keys d)) (intact : All (IsIntact d) (segments_in s.manifest))
    (held : List Entry) (all : AreHeld d held) (young : All (IsYoung before) held)
    (erases : List Pending) (pending : ArePending d s.manifest erases) (late : All (IsLate before) erases) where
  -- an entry that the layout holds is young
  stored_young : (entry : Entry) (swept : ℕ) → Holds (layout_of s) entry swept → IsYoung before entry
  stored_young entry swept is = All-contains (IsYoung before) held entry young ((held_all d held all entry).1 (stored_held d s coherent encodes intact entry swept is))

  by_delete : (entry : Entry) (time : ℕ) → IsCovered (Shows (layout_of s)) entry time → before < time
  by_delete entry time covered =
      let shown = shown_held (layout_of s) covered.above covered.shown in
      let later = stored_young covered.above shown.0 shown.1 covered.since covered.has in
      let upto = covered.old in
      omega (arith, later, upto)

  by_erase : (entry : Entry) (swept cause : ℕ) (range : Ends) → Holds (layout_of s) entry swept → IsPut entry.body → cause_of h entry.seq ≡ Some cause → done_at h cause ≡ Some (Erase range) → before < clock_before h cause
  by_erase entry swept cause range is put causes done =
      let erase = (carried.carries.erases_covered.pending entry swept cause range is put causes done).0 in
      let later = pending_told d s coherent encodes (IsLate before) erases pending late erase.0 erase.1 in
      let accepted = carried.carries.places.erases erase.0 (inl erase.1) in
      let timed : erase.0.time ≡ clock_before h cause = accepted.timed ∙ ap (clock_before h) erase.2 in
      omega (arith, later, timed)

  by_cause : (entry : Entry) (swept cause : ℕ) → Holds (layout_of s) entry swept → IsPut entry.body → cause_of h entry.seq ≡ Some cause → before < clock_before h cause
  by_cause entry swept cause is put causes = by (done_at h cause) refl
    where
      deleted : IsNoErase h cause → before < clock_before h cause
      deleted none = by_delete entry (clock_before h cause) (carried.carries.deletes_covered entry swept cause is put causes none)

      other : (call : Option Call) → done_at h cause ≡ call → ((range : Ends) → call ≡ Some (Erase range) → ⊥) → before < clock_before h cause
      other call done no_range = deleted (λ range erase. no_range range (sym done ∙ erase))

      by : (call : Option Call) → done_at h cause ≡ call → before < clock_before h cause
      by None done = other None done (λ range e. cc)
      by (Some (Put key dkey value)) done = other (Some (Put key dkey value)) done (λ range e. cc)
      by (Some (Delete key)) done = other (Some (Delete key)) done (λ range e. cc)
      by (Some (Erase range)) done = by_erase entry swept cause range is put causes done
      by (Some (Tick to)) done = other (Some (Tick to)) done (λ range e. cc)
      by (Some Work) done = other (Some Work) done (λ range e. cc)

  none_erased : (entry : Entry) → IsHeldIn d entry → IsPut entry.body → (since : ℕ) → erased h entry.seq ≡ Some since → since ≤ before → ⊥
  none_erased entry is put since = by (cause_of h entry.seq) refl
    where
      stored : (swept : ℕ) × Holds (layout_of s) entry swept
      stored = held_stored d s coherent encodes cited entry is

      by : (cause : Option ℕ) → cause_of h entry.seq ≡ cause → option_map (clock_before h) cause ≡ Some since → since ≤ before → ⊥
      by None causes erased_is upto = absurd cc
      by (Some cause) causes erased_is upto =
          let time : clock_before h cause ≡ since = cc in
          let later = by_cause entry stored.0 cause stored.1 put causes in
          omega (arith, later, time, upto)

-- The certificate is true

module _ (config : Fields) (h : History) (d : Directory) (c : Certificate) (audited : IsAudited d c) where
  carried_true : IsCarriedIn config d h → IsTrueOf config.threshold c d h
  carried_true k =
      let s = k.s in
      let told = audited.whole.told in
      let number : audited.manifest.no ≡ s.manifest.no = one_greatest d audited.manifest.no s.manifest.no told.gate.greatest k.encodes.greatest in
      let own : IsSpelled d s.manifest.no s.manifest = record { spelled = k.coherent.spelled; own = refl; there = k.encodes.manifest } in
      let same : audited.manifest ≡ s.manifest = one_spelled d s.manifest.no audited.manifest s.manifest (subst (λ n. IsSpelled d n audited.manifest) number told.spelled) own in
      let whole : IsWhole d c s.manifest = subst (IsWhole d c) same audited.whole in
      let pending : ArePending d s.manifest audited.erases = subst (λ m. ArePending d m audited.erases) same audited.pending in
      record {
        before = subst (λ (f : Fields). c.before + f.threshold ≡ c.clock) k.config_is whole.told.before;
        committed = record { manifest = s.manifest; greatest = k.encodes.greatest; there = k.encodes.manifest; digest = whole.told.digest };
        gone = none_erased h d s k.coherent k.encodes k.carried c.before whole.cited whole.intact.segments audited.held audited.all audited.young audited.erases pending audited.late;
        number = subst (λ (f : Fields). c.number ≡ certificates f.threshold h) k.config_is (sym (ap certificate_number whole.told.last) ∙ k.carried.certificate);
      }

  audited_carried : IsCarried config d h → IsTrueOf config.threshold c d h
  audited_carried (inl none) = absurd (none_or_some d audited.manifest.no none.0 audited.whole.told.gate.greatest)
  audited_carried (inr k) = carried_true k

pub audited_true : (config : Fields) (h : History) (d : Directory) (c : Certificate) → IsAudited d c → IsCarried config d h → IsTrueOf config.threshold c d h
audited_true config h d c audited is = audited_carried config h d c audited is
