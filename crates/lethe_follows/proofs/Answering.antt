-- What reads answer over the buffers and the files of what is stored.
use Rattle.std.proofs.Common.{◌≡◌, ◌⊎◌, inr, ℕ, ◌<◌, ◌≤◌, false, IsTrue, List, [], ◌∷◌, ◌++◌, map, length, All, Any, Contains, Option, Some, None, option_and_then, refl, sym, ap, ◌∙◌, subst, arith}
use Rattle.std.specs.Prelude.{◌↔◌, flat_map, is_some, slice_index_or}
use Rattle.std.specs.Option.{option_or}
use Rattle.std.specs.FinMap as finmap
use Rattle.std.proofs.lemmas.List.Elements.{All-contains, Contains-append_cases, Contains-append_right, Contains-get_or}
use Rattle.std.proofs.lemmas.List.{get_or_default}
use Rattle.std.proofs.lemmas.List.Sorted.{Contains-permutation, IsPermutation-sym}
use Rattle.lethe_base.specs.Covers.{Covers}
use Rattle.lethe_base.specs.Entries.{entry_of}
use Rattle.lethe_base.specs.Held.{IsFiled, Shows}
use Rattle.lethe_base.specs.History.{History, after}
use Rattle.lethe_base.specs.Keys.{Bytes}
use Rattle.lethe_base.specs.Layout.{Layout, buffer_of, entries_of, frozen_records, runs_of}
use Rattle.lethe_base.specs.Matching.{answer_under}
use Rattle.lethe_base.specs.Read.{is_between}
use Rattle.lethe_base.specs.declared.entry.Entry.{Entry}
use Rattle.lethe_cover.specs.Reads.{found_in}
use Rattle.lethe_cover.proofs.ByKey.{entry_in, no_entry, own_entry}
use Rattle.lethe_cover.proofs.Common.{⊎_elim, ⊎_map, first_is, first_or_rest}
use Rattle.lethe_cover.proofs.Lists.{flat_from, flat_in, in_map, map_from}
use Rattle.lethe_cover.proofs.Reading.{reads}
use Rattle.lethe_version.specs.Agreement.{entries_in}
use Rattle.lethe_version.specs.Finding.{IsEntryOf, Lacks}
use Rattle.lethe_header.specs.Facts.{lines_of}
use Rattle.lethe_moves.specs.Scans.{AreShownBetween}
use Rattle.lethe_moves.proofs.Once.{once_in_runs}
use Rattle.lethe_stored.specs.Files.{StoredFile, IsFile, Parts, parts_of, file_of}
use Rattle.lethe_stored.specs.Kept.{IsFor}
use Rattle.lethe_stored.specs.Stored.{Stored, IsCoherent, layout_of}
use Rattle.lethe_stored.proofs.FileFacts.{as_many, entries_are}
use Rattle.lethe_stored.proofs.Leveled.{of_level, from_level, in_level}
use Rattle.lethe_stored.proofs.Meanings.{frozen_are}
use Rattle.lethe_version.specs.Newest.{AreBelow, AreUpTo, IsNewestAt, IsNewestIn}
use Rattle.lethe_follows.specs.Holders.{IsHeldBy, IsPaged, pages_in, pages_of}
use Rattle.lethe_follows.proofs.Following.{file_from, file_in, follows}

-- Some element of a list

any_at : {X : Type 0} (P : X → Type 0) (xs : List X) (x : X) → Contains xs x → P x → Any P xs
any_at P xs x there holds = (there.0, x, there.1, there.2, holds)

some_at : {X : Type 0} (P : X → Type 0) (xs : List X) → Any P xs → (x : X) × Contains xs x × P x
some_at P xs any = (any.1, (any.0, any.2, any.3), any.4)

-- an entry that is the newest of some files is no older than any of its key there
no_newer : (key : Bytes) (before : List (List (List Entry))) (file : List (List Entry)) (behind : List (List (List Entry))) (entry : Entry) → IsNewestAt key before file behind entry
    → (its : List (List Entry)) → Contains (before ++ file ∷ behind) its → (other : Entry) → IsEntryOf key its (Some other) → other.seq ≤ entry.seq
no_newer key before file behind entry newest its there other is = ⊎_elim
    (λ first. let lower = All-contains (AreBelow key entry.seq) before its newest.first first other is in omega (arith, lower))
    (λ rest. ⊎_elim (λ same. subst (AreUpTo key entry.seq) same newest.itself other is) (λ last. All-contains (AreUpTo key entry.seq) behind its newest.rest last other is) (first_or_rest file behind its rest))
    (Contains-append_cases before (file ∷ behind) its there)

-- where no file has an entry of the key, no page has one
pub none_paged : (levels : List (List Parts)) (key : Bytes) → All (λ file. IsEntryOf key file None) (pages_in levels) → (entry : Entry) → IsPaged levels entry → entry.key ≡ key → ⊥
none_paged levels key lack entry any same =
    let file = some_at (λ file. Any (λ page. Contains page entry) file) (pages_in levels) any in
    let page = some_at (λ page. Contains page entry) file.0 file.2 in
    let lacks = All-contains (Lacks key) file.0 page.0 (All-contains (λ file. IsEntryOf key file None) (pages_in levels) file.0 lack file.1) page.1 in
    All-contains (λ (e : Entry). e.key ≡ key → ⊥) page.0 entry lacks page.2 same

-- The entries of a file

-- an entry of a file of the layout stands on one of the stored file's pages
spelled_pages : (next : ℕ) (file : StoredFile) → IsFile next file → entries_of (file_of file) ≡ flat_map entries_in file.pages
spelled_pages next file is = entries_are file.header.tiles file.pages (as_many (lines_of file.header.tiles) file.pages is.agrees.pages)

module _ (next : ℕ) (file : StoredFile) (is : IsFile next file) (entry : Entry) where
  to_page : Contains (entries_of (file_of file)) entry → Any (λ page. Contains page entry) (pages_of (parts_of file))
  to_page there =
      let found = flat_from entries_in file.pages entry (subst (λ entries. Contains entries entry) (spelled_pages next file is) there) in
      any_at (λ page. Contains page entry) (pages_of (parts_of file)) (entries_in found.0) (in_map entries_in file.pages found.0 found.1) found.2

  from_page : Any (λ page. Contains page entry) (pages_of (parts_of file)) → Contains (entries_of (file_of file)) entry
  from_page any =
      let page = some_at (λ page. Contains page entry) (pages_of (parts_of file)) any in
      let bytes = map_from entries_in file.pages page.0 page.1 in
      subst (λ entries. Contains entries entry) (sym (spelled_pages next file is))
      (flat_in entries_in file.pages bytes.0 entry bytes.1 (subst (λ page. Contains page entry) (sym bytes.2) page.2))

-- The files by level

module _ (s : Stored) (coherent : IsCoherent s) (active frozen : List Entry) (levels : List (List Parts)) (held : IsHeldBy s active frozen levels) where
  abbrev l : Layout
  l = layout_of s

  sound : (file : StoredFile) → Contains s.files file → IsFile s.manifest.next file
  sound file there = All-contains (IsFile s.manifest.next) s.files file coherent.each there

  parts_in : (file : StoredFile) → Contains s.files file → file.level ≤ s.manifest.config.levels → Contains (flat_map (λ files. files) levels) (parts_of file)
  parts_in file there low =
      let count = held.files.count in
      let within : file.level < length levels = omega (arith, count, low) in
      let level = slice_index_or levels file.level [] in
      flat_in (λ files. files) levels level (parts_of file) (Contains-get_or levels file.level [] within)
      (Contains-permutation (map parts_of (of_level s.files file.level)) level (parts_of file) (held.files.each file.level within) (in_map parts_of (of_level s.files file.level) file (in_level s.files file.level file there refl)))

  parts_from : (parts : Parts) → Contains (flat_map (λ files. files) levels) parts → (file : StoredFile) × Contains s.files file × (file.level ≤ s.manifest.config.levels) × (parts_of file ≡ parts)
  parts_from parts there =
      let found = flat_from (λ files. files) levels parts there in
      let number = (found.1).0 in
      let within : number < length levels = (found.1).1 in
      let level = slice_index_or levels number [] in
      let same : level ≡ found.0 = get_or_default levels number [] found.0 within ∙ (found.1).2 in
      let mapped = map_from parts_of (of_level s.files number) parts (Contains-permutation level (map parts_of (of_level s.files number)) parts
      (IsPermutation-sym (map parts_of (of_level s.files number)) level (held.files.each number within)) (subst (λ files. Contains files parts) (sym same) found.2)) in
      let stored = from_level s.files number mapped.0 mapped.1 in
      let count = held.files.count in
      let is = stored.1 in
      (mapped.0, stored.0, omega (arith, count, within, is), mapped.2)

  paged : (entry : Entry) → IsFiled l entry → IsPaged levels entry
  paged entry filed =
      let found = file_from s.manifest.config.levels s.files filed.file filed.there in
      let pages = to_page s.manifest.next found.0 (sound found.0 found.1) entry (subst (λ file. Contains (entries_of file) entry) (sym found.3) filed.spelled) in
      any_at (λ file. Any (λ page. Contains page entry) file) (pages_in levels) (pages_of (parts_of found.0)) (in_map pages_of (flat_map (λ files. files) levels) (parts_of found.0) (parts_in found.0 found.1 found.2)) pages

  filed : (entry : Entry) → IsPaged levels entry → IsFiled l entry
  filed entry any =
      let pages = some_at (λ file. Any (λ page. Contains page entry) file) (pages_in levels) any in
      let parts = map_from pages_of (flat_map (λ files. files) levels) pages.0 pages.1 in
      let found = parts_from parts.0 parts.1 in record {
        file = file_of found.0;
        there = file_in s.manifest.config.levels s.files found.0 found.1 found.2;
        spelled = from_page s.manifest.next found.0 (sound found.0 found.1) entry (subst (λ pages. Any (λ page. Contains page entry) pages) (sym (ap pages_of found.3 ∙ parts.2)) pages.2);
      }

  -- The buffers

  from_active : (key : Bytes) → entry_of key active ≡ finmap.get (buffer_of l.active) key
  from_active key = held.active_newest key

  from_frozen : (key : Bytes) → entry_of key frozen ≡ finmap.get (buffer_of (frozen_records l)) key
  from_frozen key = held.frozen_newest key ∙ ap (λ rs. finmap.get (buffer_of rs) key) (sym (frozen_are s))

  to_shown : (entry : Entry) → (Contains active entry ⊎ Contains frozen entry) ⊎ IsPaged levels entry → Shows l entry
  to_shown entry = ⊎_map (⊎_map (λ there. sym (from_active entry.key) ∙ own_entry active entry held.active_ascends there) (λ there. sym (from_frozen entry.key) ∙ own_entry frozen entry held.frozen_ascends there)) (filed entry)

  from_shown : (entry : Entry) → Shows l entry → (Contains active entry ⊎ Contains frozen entry) ⊎ IsPaged levels entry
  from_shown entry = ⊎_map (⊎_map (λ is. (entry_in entry.key active entry (from_active entry.key ∙ is)).0) (λ is. (entry_in entry.key frozen entry (from_frozen entry.key ∙ is)).0)) (paged entry)

  pub lacking : (key : Bytes) → entry_of key active ≡ None → entry_of key frozen ≡ None → ((entry : Entry) → IsPaged levels entry → entry.key ≡ key → ⊥) → (entry : Entry) → Shows l entry → entry.key ≡ key → ⊥
  lacking key no_active no_frozen none entry shown same = ⊎_elim
      (⊎_elim (λ there. no_entry key active no_active entry there same) (λ there. no_entry key frozen no_frozen entry there same))
      (λ there. none entry there same) (from_shown entry shown)

  pub shown_between : (lo hi : Bytes) (entries : List Entry) → ((entry : Entry) → Contains entries entry ↔ (((Contains active entry ⊎ Contains frozen entry) ⊎ IsPaged levels entry) × IsTrue (is_between lo hi entry.key)))
      → AreShownBetween l lo hi entries
  shown_between lo hi entries all entry = (
    (λ there. let is = (all entry).0 there in (to_shown entry is.0, is.1)),
    (λ is. (all entry).1 (from_shown entry is.0, is.1)),
  )

  -- A get

  module _ (h : History) (stands : IsFor h s) (key : Bytes) where
    covers : Covers s.manifest.config.threshold h l
    covers = stands.covers

    -- where neither buffer has the key, the newest of the files' entries answers what the map has
    files_answer : (o : Option Entry) → entry_of key active ≡ None → entry_of key frozen ≡ None → IsNewestIn key (pages_in levels) o → option_and_then (answer_under l.pending) o ≡ finmap.get (after h).map key
    files_answer None no_active no_frozen none = sym (covers.same_map.absent key (lacking key no_active no_frozen (none_paged levels key none)))
    files_answer (Some entry) no_active no_frozen found =
        let before = found.0 in
        let file = found.1 in
        let behind = found.2 in
        let newest = found.4 in
        let named : entry.key ≡ key = newest.here.1 in
        let there : Contains (pages_in levels) file = subst (λ files. Contains files file) (sym found.3) (Contains-append_right before (file ∷ behind) file (first_is file behind file refl)) in
        covers.same_map.newest entry (record {
          shown = inr (filed entry (any_at (λ file. Any (λ page. Contains page entry) file) (pages_in levels) file there newest.here.0));
          last = λ other shown same. ⊎_elim
              (⊎_elim (λ at. absurd (no_entry key active no_active other at (same ∙ named))) (λ at. absurd (no_entry key frozen no_frozen other at (same ∙ named))))
              (λ at.
              let its = some_at (λ file. Any (λ page. Contains page other) file) (pages_in levels) at in
              no_newer key before file behind entry newest its.0 (subst (λ files. Contains files its.0) found.3 its.1) other (its.2, same ∙ named))
              (from_shown other shown);
        }) ∙ ap (finmap.get (after h).map) named

    -- the read of the layout, whose first match is in a buffer
    read : option_and_then (answer_under l.pending) (option_or (finmap.get (buffer_of l.active) key) (option_or (finmap.get (buffer_of (frozen_records l)) key) (found_in key (runs_of l.levels)))) ≡ finmap.get (after h).map key
    read = reads s.manifest.config.threshold h l covers (once_in_runs l (follows h s coherent stands).ordered) key

    answered_is : (a f : Option Entry) → entry_of key active ≡ a → entry_of key frozen ≡ f → (o : Option Entry) → (is_some (option_or a f) ≡ false → IsNewestIn key (pages_in levels) o)
        → option_and_then (answer_under l.pending) (option_or a (option_or f o)) ≡ finmap.get (after h).map key
    answered_is (Some entry) f at_active at_frozen o newest =
        ap (λ x. option_and_then (answer_under l.pending) (option_or x (option_or (finmap.get (buffer_of (frozen_records l)) key) (found_in key (runs_of l.levels))))) (sym at_active ∙ from_active key) ∙ read
    answered_is None (Some entry) at_active at_frozen o newest =
        ap (λ x. option_and_then (answer_under l.pending) (option_or x (found_in key (runs_of l.levels)))) (sym at_frozen ∙ from_frozen key)
        ∙ ap (λ x. option_and_then (answer_under l.pending) (option_or x (option_or (finmap.get (buffer_of (frozen_records l)) key) (found_in key (runs_of l.levels))))) (sym at_active ∙ from_active key) ∙ read
    answered_is None None at_active at_frozen o newest = files_answer o at_active at_frozen (newest refl)

  pub get_answers : (h : History) → IsFor h s → (key : Bytes) (o : Option Entry) → (is_some (option_or (entry_of key active) (entry_of key frozen)) ≡ false → IsNewestIn key (pages_in levels) o)
      → option_and_then (answer_under l.pending) (option_or (entry_of key active) (option_or (entry_of key frozen) o)) ≡ finmap.get (after h).map key
  get_answers h stands key o newest = answered_is h stands key (entry_of key active) (entry_of key frozen) refl refl o newest
