-- Each object of a directory that has what is stored is a spelling, and what it spells is stored.
use Rattle.std.proofs.Common.{◌≡◌, ◌⊎◌, inl, inr, ℕ, ◌<◌, ◌^◌, List, [], ◌∷◌, ◌++◌, map, Contains, Option, Some, None, refl, sym, ap, ◌∙◌, subst, arith}
use Rattle.std.specs.Prelude.{All, filter_map, is_some, option_to_list, zip}
use Rattle.std.specs.List.{AllZip}
use Rattle.std.proofs.Math.Logic.{⊎_elim}
use Rattle.std.proofs.lemmas.List.Elements.{All-contains, Contains-append_cases, Contains-append_left, Contains-append_right}
use Rattle.lethe_base.specs.Causes.{IsOverdue}
use Rattle.lethe_base.specs.Held.{Holds, InFiles}
use Rattle.lethe_base.specs.History.{History, after}
use Rattle.lethe_base.specs.Layout.{Written, files_of}
use Rattle.lethe_base.specs.Layout as layout
use Rattle.lethe_base.specs.Matching.{IsPut}
use Rattle.lethe_base.specs.Placed.{IsPlaced}
use Rattle.lethe_base.specs.declared.entry.Entry.{Entry}
use Rattle.lethe_base.specs.declared.name.Kind.{Kind}
use Rattle.lethe_base.specs.declared.name.Kind.TheVariants as kinds
use Rattle.lethe_base.specs.declared.name.Name.{Name}
use Rattle.lethe_base.proofs.LayoutLaws.{none_in}
use Rattle.lethe_base.proofs.Overdue.{none_overdue}
use Rattle.lethe_base.proofs.Newest.{first_or_rest}
use Rattle.lethe_disk.specs.Directory.{Directory, object}
use Rattle.lethe_disk.proofs.Objects.{one_object}
use Rattle.lethe_file.specs.Agreement.{Agrees, page_name}
use Rattle.lethe_file.specs.Agreement as agreement
use Rattle.lethe_header.specs.Facts.{lines_of}
use Rattle.lethe_header.specs.declared.header.PageLine.{PageLine}
use Rattle.lethe_page.proofs.PageLaws.{same_page}
use Rattle.lethe_segment.specs.declared.record.Record.{Record}
use Rattle.lethe_segment.specs.declared.record.Record.TheVariants as of
use Rattle.lethe_segment.specs.Segments.{Ascends, segment_bytes}
use Rattle.lethe_segment.proofs.Runs.{same_segment}
use Rattle.lethe_manifest.specs.Manifests.{manifest_bytes}
use Rattle.lethe_commit.specs.Gates.{gate_name}
use Rattle.lethe_commit.specs.Switch.{manifest_name}
use Rattle.lethe_cover.proofs.Lists.{flat_from, in_rest, map_from, only_in}
use Rattle.lethe_stored.specs.Clean.{IsClean, Spells, SpellsPage, entry_of}
use Rattle.lethe_stored.specs.Encodes.{Encodes, HasObject}
use Rattle.lethe_stored.specs.Files.{StoredFile, IsFile, file_of, lines_in, objects_in, objects_of}
use Rattle.lethe_stored.specs.Kept.{IsFor}
use Rattle.lethe_stored.specs.Stored.{Stored, Segment, IsCited, IsCoherent, layout_of, number_of, part_names, plain, records_in, segment_name, segment_numbers, segments_of}
use Rattle.lethe_stored.proofs.FileFacts.{as_many, entries_are}
use Rattle.lethe_stored.proofs.Leveled.{low_level}
use Rattle.lethe_stored.proofs.Lists.{in_flat}
use Rattle.lethe_stored.proofs.Meanings.{frozen_are}
use Rattle.lethe_flush.proofs.Following.{file_in}
use Rattle.lethe_advance.specs.Settled.{HasOnly}
use Rattle.lethe_advance.specs.Untorn.{IsPlain, IsUntorn}
use Rattle.lethe_clean.specs.Copied.{IsCopied, IsOriginal, IsTimely}

-- The entry was put at its place in the history, and isn't overdue at the clock.
pub record IsTold (threshold : ℕ) (h : History) (entry : Entry) : Type 0 where
  pub placed : IsPlaced h entry.seq entry.key entry.body
  pub timely : IsOverdue threshold h (after h).clock entry.seq → ⊥

-- what an object spells, whichever spelling is taken
pub record IsToldIn (threshold : ℕ) (h : History) (name : Name) (bytes : List ℕ) : Type 0 where
  pub entries : List Entry
  pub spelled : Spells name.kind name.no bytes entries
  pub told : (other : List Entry) → Spells name.kind name.no bytes other → (entry : Entry) → Contains other entry → IsPut entry.body → IsTold threshold h entry

-- an entry of a segment's records is one of its layout's
entry_recorded : (records : List Record) (entry : Entry) → Contains (filter_map entry_of records) entry → Contains (map plain records) (Written entry)
entry_recorded [] entry there = absurd (none_in entry there)
entry_recorded (of.Entry first ∷ records) entry there = ⊎_elim (λ (same : first ≡ entry). (0, omega arith, ap (λ e. Written e) same))
    (λ rest. in_rest (Written first) (map plain records) (Written entry) (entry_recorded records entry rest)) (first_or_rest first (filter_map entry_of records) entry there)
entry_recorded (of.Blind place ∷ records) entry there = in_rest (layout.Blind place) (map plain records) (Written entry) (entry_recorded records entry there)
entry_recorded (of.Erase erase ∷ records) entry there = in_rest (layout.Erasing erase) (map plain records) (Written entry) (entry_recorded records entry there)

-- a page of a list agrees with its line
paged : (lines : List PageLine) (pages : List (List ℕ)) (pair : PageLine × List ℕ) → AllZip Agrees lines pages → Contains (zip lines pages) pair → Agrees pair.0 pair.1 × Contains pages pair.1
paged [] pages pair agrees there = absurd (none_in pair there)
paged (line ∷ lines) [] pair agrees there = absurd (none_in pair there)
paged (line ∷ lines) (page ∷ pages) pair agrees there = ⊎_elim
    (λ (same : (line, page) ≡ pair). (subst (λ (p : PageLine × List ℕ). Agrees p.0 p.1) same agrees.0, (0, omega arith, ap (λ (p : PageLine × List ℕ). p.1) same)))
    (λ rest. let more = paged lines pages pair agrees.1 rest in (more.0, in_rest page pages pair.1 more.1))
    (first_or_rest (line, page) (zip lines pages) pair there)

module _ (h : History) (s : Stored) (coherent : IsCoherent s) (stands : IsFor h s) where
  abbrev threshold : ℕ
  threshold = s.manifest.config.threshold

  held_told : (entry : Entry) (swept : ℕ) → Holds (layout_of s) entry swept → IsPut entry.body → IsTold threshold h entry
  held_told entry swept held put = record {
    placed = stands.covers.places.entries entry swept held;
    timely = λ overdue. none_overdue threshold h (layout_of s) stands.covers entry swept held put (subst (λ t. IsOverdue threshold h t entry.seq) (sym stands.clock) overdue);
  }

  filed_told : (entry : Entry) → InFiles (files_of (layout_of s)) entry → IsPut entry.body → IsTold threshold h entry
  filed_told entry filed put = held_told entry filed.file.swept (inr (filed, refl)) put

  -- Pages

  page_told : (name : Name) (bytes : List ℕ) → name.kind ≡ kinds.Page → (entries : List Entry) → SpellsPage bytes entries
      → ((entry : Entry) → Contains entries entry → IsPut entry.body → IsTold threshold h entry) → IsToldIn threshold h name bytes
  page_told name bytes kind entries spelled told = record {
    entries = entries;
    spelled = subst (λ (k : Kind). Spells k name.no bytes entries) (sym kind) spelled;
    told = λ other also entry there put.
        let page : SpellsPage bytes other = subst (λ (k : Kind). Spells k name.no bytes other) kind also in
        let same : other ≡ entries = (same_page page.class spelled.class other entries page.spelled spelled.spelled (sym page.is ∙ spelled.is)).1 in
        told entry (subst (λ list. Contains list entry) same there) put;
  }

  copied_told : (named : Name × List ℕ) → IsCopied s named → IsToldIn threshold h named.0 named.1
  copied_told named is = page_told named.0 named.1 is.page is.entries is.spelled (λ entry inside put.
      let from : IsOriginal (files_of (layout_of s)) entry =
      All-contains (λ entry. IsPut entry.body → IsOriginal (files_of (layout_of s)) entry) is.entries entry is.copies inside put in
      let told = filed_told from.original from.filed (subst IsPut (sym from.body) put) in
      record {
        placed = subst (λ b. IsPlaced h entry.seq entry.key b) from.body (subst (λ k. IsPlaced h entry.seq k from.original.body) from.key
            (subst (λ n. IsPlaced h n from.original.key from.original.body) from.seq told.placed));
        timely = subst (λ n. IsOverdue threshold h (after h).clock n → ⊥) from.seq told.timely;
      })

  timely_told : (named : Name × List ℕ) → IsTimely threshold (after h).clock h named → IsToldIn threshold h named.0 named.1
  timely_told named is = page_told named.0 named.1 is.page is.entries is.spelled (λ entry inside put. record {
    placed = All-contains (λ (entry : Entry). IsPut entry.body → IsPlaced h entry.seq entry.key entry.body) is.entries entry is.placed inside put;
    timely = All-contains (λ (entry : Entry). IsPut entry.body → IsOverdue threshold h (after h).clock entry.seq → ⊥) is.entries entry is.timely inside put;
  })

  -- a page of a stored file has entries of the file
  file_entry : (file : StoredFile) → Contains s.files file → (page : List ℕ) → Contains file.pages page
      → (entry : Entry) → Contains (agreement.entries_in page) entry → InFiles (files_of (layout_of s)) entry
  file_entry file cited page there entry inside =
      let is = All-contains (IsFile s.manifest.next) s.files file coherent.each cited in
      let all = entries_are file.header.tiles file.pages (as_many (lines_of file.header.tiles) file.pages is.agrees.pages) in
      record {
        file = file_of file;
        there = file_in s.manifest.config.levels s.files file cited (low_level s coherent file cited);
        spelled = subst (λ list. Contains list entry) (sym all) (in_flat agreement.entries_in file.pages page entry there inside);
      }

  object_told : (named : Name × List ℕ) → Contains (objects_of s.files) named → IsToldIn threshold h named.0 named.1
  object_told named there =
      let found = flat_from objects_in s.files named there in
      let file = found.0 in
      let cited = found.1 in
      let is = All-contains (IsFile s.manifest.next) s.files file coherent.each cited in
      ⊎_elim (λ header. subst (λ (n : Name × List ℕ). IsToldIn threshold h n.0 n.1) header (record {
        entries = [];
        spelled = (record { header = file.header; spelled = is.spelled; own = refl; is = refl }, refl);
        told = λ other also entry inside put. absurd (none_in entry (subst (λ list. Contains list entry) also.1 inside));
      }))
      (λ page.
      let line = map_from (λ (p : PageLine × List ℕ). (page_name p.0.no, p.1)) (zip (lines_in file) file.pages) named page in
      let agrees = paged (lines_in file) file.pages line.0 is.agrees.pages line.1 in
      subst (λ (n : Name × List ℕ). IsToldIn threshold h n.0 n.1) line.2 (page_told (page_name line.0.0.no) line.0.1 refl (agreement.entries_in line.0.1)
      (record { class = line.0.0.class; spelled = agrees.0.page.spelled; is = agrees.0.spelled })
      (λ entry inside put. filed_told entry (file_entry file cited line.0.1 agrees.1 entry inside) put)))
      (first_or_rest _ _ named found.2)

  -- Segments

  segment_told : (segment : Segment) → segment.no < s.manifest.next → Ascends 0 segment.records
      → ((r : layout.Record) → Contains (map plain segment.records) r → (entry : Entry) → r ≡ Written entry → Holds (layout_of s) entry 0)
      → IsToldIn threshold h (segment_name segment.no) (segment_bytes segment.no segment.records)
  segment_told segment below ascends held =
      let next = coherent.spelled.next in
      let fits : segment.no < 2 ^ 64 = omega (arith, below, next) in
      record {
        entries = filter_map entry_of segment.records;
        spelled = record { fits = fits; records = segment.records; ascends = ascends; is = refl; those = refl };
        told = λ other also entry there put.
            let same = (same_segment segment.no segment.no also.records segment.records also.fits fits also.ascends ascends (sym also.is)).1 in
            let inside : Contains (filter_map entry_of segment.records) entry = subst (λ list. Contains list entry) (also.those ∙ ap (filter_map entry_of) same) there in
            held_told entry 0 (held (Written entry) (entry_recorded segment.records entry inside) entry refl) put;
      }

  active_told : IsToldIn threshold h (segment_name s.active.no) (segment_bytes s.active.no s.active.records)
  active_told = segment_told s.active below coherent.active (λ r there entry is. inl (inl (subst (Contains (map plain s.active.records)) is there), refl))
    where
      below : s.active.no < s.manifest.next
      below = All-contains (λ n. n < s.manifest.next) s.manifest.segments s.active.no coherent.spelled.segments.below
          (subst (λ l. Contains l s.active.no) (sym coherent.cites) (Contains-append_right (map number_of (option_to_list s.frozen)) (s.active.no ∷ []) s.active.no (0, omega arith, refl)))

  frozen_told : (older : Segment) → s.frozen ≡ Some older → IsToldIn threshold h (segment_name older.no) (segment_bytes older.no older.records)
  frozen_told older is = segment_told older below (subst (λ o. Ascends 0 (records_in o)) is coherent.frozen) (λ r there entry same.
      inl (
        inr (subst (λ l. Contains l (Written entry)) (sym (frozen_are s))
            (subst (λ o. Contains (map plain (records_in o)) (Written entry)) (sym is) (subst (Contains (map plain older.records)) same there))),
        refl,
      ))
    where
      below : older.no < s.manifest.next
      below = All-contains (λ n. n < s.manifest.next) s.manifest.segments older.no coherent.spelled.segments.below
          (subst (λ l. Contains l older.no) (sym coherent.cites) (subst (λ o. Contains (map number_of (option_to_list o) ++ s.active.no ∷ []) older.no) (sym is) (0, omega arith, refl)))

  -- The directory

  module _ (loose : List (Name × List ℕ)) (d : Directory) (encodes : Encodes d s)
      (only : HasOnly s loose d) (untorn : IsUntorn s d) (each : All (λ named. IsCopied s named ⊎ IsTimely threshold (after h).clock h named) loose) where
    -- what the directory has under a name
    found : (name : Name) (known bytes : List ℕ) → object d name ≡ Some known → object d name ≡ Some bytes → IsToldIn threshold h name known → IsToldIn threshold h name bytes
    found name known bytes here there told = subst (IsToldIn threshold h name) (one_object (object d name) known bytes here there) told

    no_entries : (name : Name) (bytes : List ℕ) → Spells name.kind name.no bytes [] → ((other : List Entry) → Spells name.kind name.no bytes other → other ≡ [])
        → IsToldIn threshold h name bytes
    no_entries name bytes spelled none = record {
      entries = [];
      spelled = spelled;
      told = λ other also entry there put. absurd (none_in entry (subst (λ list. Contains list entry) (none other also) there));
    }

    gate_told : IsToldIn threshold h (gate_name s.manifest.no) []
    gate_told = no_entries (gate_name s.manifest.no) [] (refl, refl) (λ other also. also.1)

    manifest_told : IsToldIn threshold h (manifest_name s.manifest.no) (manifest_bytes s.manifest)
    manifest_told = no_entries (manifest_name s.manifest.no) (manifest_bytes s.manifest)
        (record { manifest = s.manifest; spelled = coherent.spelled; own = refl; is = refl }, refl) (λ other also. also.1)

    loose_told : (named : Name × List ℕ) → Contains loose named → IsToldIn threshold h named.0 named.1
    loose_told named there = ⊎_elim (copied_told named) (timely_told named)
        (All-contains (λ named. IsCopied s named ⊎ IsTimely threshold (after h).clock h named) loose named each there)

    segment_found : (number : ℕ) (bytes : List ℕ) → Contains (segment_numbers s) number → object d (segment_name number) ≡ Some bytes → IsToldIn threshold h (segment_name number) bytes
    segment_found number bytes there here = ⊎_elim
        (λ older.
        let segment = map_from number_of (option_to_list s.frozen) number older in
        let is : s.frozen ≡ Some segment.0 = from_option s.frozen segment.0 segment.1 in
        let plain_is : IsPlain d segment.0 =
        All-contains (IsPlain d) (segments_of s) segment.0 untorn.segments (Contains-append_left (option_to_list s.frozen) (s.active ∷ []) segment.0 segment.1) in
        subst (λ n. object d (segment_name n) ≡ Some bytes → IsToldIn threshold h (segment_name n) bytes) segment.2
        (λ has. found (segment_name segment.0.no) _ bytes plain_is has (frozen_told segment.0 is)) here)
        (λ last.
        let same : s.active.no ≡ number = only_in s.active.no number last in
        let plain_is : IsPlain d s.active =
        All-contains (IsPlain d) (segments_of s) s.active untorn.segments (Contains-append_right (option_to_list s.frozen) (s.active ∷ []) s.active (0, omega arith, refl)) in
        subst (λ n. object d (segment_name n) ≡ Some bytes → IsToldIn threshold h (segment_name n) bytes) same (λ has. found (segment_name s.active.no) _ bytes plain_is has active_told) here)
        (Contains-append_cases (map number_of (option_to_list s.frozen)) (s.active.no ∷ []) number there)
      where
        from_option : (o : Option Segment) (segment : Segment) → Contains (option_to_list o) segment → o ≡ Some segment
        from_option None segment there = absurd (none_in segment there)
        from_option (Some older) segment there = ap Some (only_in older segment there)

    part_found : (name : Name) (bytes : List ℕ) → Contains (part_names s) name → object d name ≡ Some bytes → IsToldIn threshold h name bytes
    part_found name bytes there here = ⊎_elim
        (λ segment.
        let number = map_from segment_name (segment_numbers s) name segment in
        subst (λ n. object d n ≡ Some bytes → IsToldIn threshold h n bytes) number.2 (λ has. segment_found number.0 bytes number.1 has) here)
        (λ inside.
        let named = map_from (λ (named : Name × List ℕ). named.0) (objects_of s.files) name inside in
        let has = All-contains (HasObject d) (objects_of s.files) named.0 encodes.parts.files named.1 in
        subst (λ n. object d n ≡ Some bytes → IsToldIn threshold h n bytes) named.2 (λ is. found named.0.0 named.0.1 bytes has is (object_told named.0 named.1)) here)
        (Contains-append_cases (map segment_name (segment_numbers s)) (map (λ (named : Name × List ℕ). named.0) (objects_of s.files)) name there)

    cited_found : (name : Name) (bytes : List ℕ) → IsCited s name → object d name ≡ Some bytes → IsToldIn threshold h name bytes
    cited_found name bytes (inl gate) here =
        subst (λ n. object d n ≡ Some bytes → IsToldIn threshold h n bytes) (sym gate) (λ has. found (gate_name s.manifest.no) [] bytes untorn.gate has gate_told) here
    cited_found name bytes (inr (inl manifest)) here =
        subst (λ n. object d n ≡ Some bytes → IsToldIn threshold h n bytes) (sym manifest) (λ has. found (manifest_name s.manifest.no) _ bytes encodes.manifest has manifest_told) here
    cited_found name bytes (inr (inr part)) here = part_found name bytes part here

    object_found : (name : Name) (bytes : List ℕ) → object d name ≡ Some bytes → IsToldIn threshold h name bytes
    object_found name bytes here = ⊎_elim (λ cited. cited_found name bytes cited here)
        (λ beside.
        let named = map_from (λ (named : Name × List ℕ). named.0) loose name beside in
        let has = All-contains (HasObject d) loose named.0 only.there named.1 in
        subst (λ n. object d n ≡ Some bytes → IsToldIn threshold h n bytes) named.2 (λ is. found named.0.0 named.0.1 bytes has is (loose_told named.0 named.1)) here)
        (only.only name (ap is_some here))

    pub stored_clean : IsClean threshold d h (after h).clock
    stored_clean = record {
      spelled = λ name bytes here. let is = object_found name bytes here in (is.entries, is.spelled);
      placed = λ entry held put. ((object_found held.name held.bytes held.there).told held.entries held.spelled entry held.among put).placed;
      timely = λ entry held put. ((object_found held.name held.bytes held.there).told held.entries held.spelled entry held.among put).timely;
    }
