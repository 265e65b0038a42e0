-- What reads answer over what a snapshot shows.
use Rattle.std.proofs.Common.{◌≡◌, ◌⊎◌, ℕ, true, List, [], ◌∷◌, ◌++◌, map, All, Any, Contains, IsTrue, Option, Some, None, option_and_then, refl, sym, ap, ◌∙◌, subst}
use Rattle.std.specs.Prelude.{◌↔◌, flat_map}
use Rattle.std.proofs.lemmas.List.{map-append, map-id}
use Rattle.std.proofs.lemmas.List.Elements.{All-contains}
use Rattle.std.proofs.lemmas.Simd.{map-map}
use Rattle.lethe_base.specs.Entries.{IsAscending}
use Rattle.lethe_base.specs.History.{History, Pair, after}
use Rattle.lethe_base.specs.Keys.{Bytes}
use Rattle.lethe_base.specs.Matching.{answer_under}
use Rattle.lethe_base.specs.Read.{Get, Scan, Found, Listed, answer, is_between}
use Rattle.lethe_base.specs.declared.entry.Entry.{Entry}
use Rattle.lethe_base.specs.declared.pending.Pending.{Pending}
use Rattle.lethe_disk.specs.declared.disk.Disk.{Ghosts}
use Rattle.lethe_file.specs.Agreement.{FileAgrees}
use Rattle.lethe_cover.proofs.Lists.{in_map}
use Rattle.lethe_mem.specs.Buffered.{Buffered}
use Rattle.lethe_mem.specs.Pairs.{pairs_of}
use Rattle.lethe_merge.specs.Merge.{merged}
use Rattle.lethe_moves.proofs.Scanning.{scanned as between}
use Rattle.lethe_stored.specs.Files.{IsFile, Parts}
use Rattle.lethe_stored.specs.Replayed.{AreNewestOf}
use Rattle.lethe_stored.specs.Stored.{Stored, Segment, layout_of, records_in}
use Rattle.lethe_stored.proofs.Lists.{all_from}
use Rattle.lethe_version.specs.Newest.{IsNewestIn}
use Rattle.lethe_version.specs.Versions.{IsSound, entries_of, files_of, levels_of}
use Rattle.lethe_version.specs.declared.version.Version.{Version}
use Rattle.lethe_state.specs.Holders.{IsHeldBy, IsPaged, pages_in, pages_of}
use Rattle.lethe_state.proofs.Answering.{get_answers, shown_between}
use Rattle.lethe_state.proofs.Recording.{newest_none}
use Rattle.lethe_advance.specs.Shown.{parts_by_level, parts_in}
use Rattle.lethe_read.specs.Between.{AreReadBetween, by_keys}
use Rattle.lethe_read.specs.Found.{IsNewestBelow, first_found, frozen_entries}
use Rattle.lethe_state.proofs.Leveled.{parts_from}
use Rattle.lethe_state.specs.Remembered.{IsFrozenIn}
use Rattle.lethe_snapshot.specs.Points.{IsOf}
use Rattle.lethe_snapshot.specs.declared.snapshot.Snapshot.{Snapshot}

-- The files as readers have them

flat-map : {X Y Z : Type 0} (g : Y → Z) (f : X → Y) (levels : List (List X)) → map g (flat_map (λ files. files) (map (map f) levels)) ≡ map (λ x. g (f x)) (flat_map (λ files. files) levels)
flat-map g f [] = refl
flat-map g f (files ∷ levels) =
    map-append g (map f files) (flat_map (λ files. files) (map (map f) levels))
    ∙ (λ i. map-map g f files i ++ flat-map g f levels i)
    ∙ sym (map-append (λ x. g (f x)) files (flat_map (λ files. files) levels))

flat-parts : {D Page Port : Type 0} {kind : Ghosts D Page Port} (version : Version D Page Port kind) → flat_map (λ files. files) (parts_by_level version) ≡ map parts_in (files_of version)
flat-parts version = sym (map-id (flat_map (λ files. files) (parts_by_level version))) ∙ flat-map (λ (p : Parts). p) parts_in (levels_of version)

-- The buffers

frozen_newest : (o : Option Segment) (frozen : Option Buffered) → IsFrozenIn o frozen → AreNewestOf (records_in o) (frozen_entries (λ (buffer : Buffered). buffer.entries) frozen)
frozen_newest None None is = newest_none [] refl
frozen_newest (Some segment) (Some buffer) is = is
frozen_newest None (Some buffer) is = absurd is
frozen_newest (Some segment) None is = absurd is

frozen_ascends : (frozen : Option Buffered) → IsAscending (frozen_entries (λ (buffer : Buffered). buffer.entries) frozen)
frozen_ascends None = refl
frozen_ascends (Some buffer) = buffer.ascending

-- a buffer of the same entries has the same newest ones
pub same_frozen : (o : Option Segment) (old new : Buffered) → new.entries ≡ old.entries → IsFrozenIn o (Some old) → IsFrozenIn o (Some new)
same_frozen (Some segment) old new same is = subst (AreNewestOf segment.records) (sym same) is
same_frozen None old new same is = is

module _ {D Page Port : Type 0} {kind : Ghosts D Page Port} (snapshot : Snapshot D Page Port kind) (h : History) (is : IsOf h snapshot) where
  abbrev s : Stored
  s = is.stored

  abbrev files : List (List (List Entry))
  files = map entries_of (files_of snapshot.version)

  abbrev older : List Entry
  older = frozen_entries (λ (buffer : Buffered). buffer.entries) snapshot.frozen

  held_by : IsHeldBy s snapshot.active.entries older (parts_by_level snapshot.version)
  held_by = record {
    active_ascends = snapshot.active.ascending;
    frozen_ascends = frozen_ascends snapshot.frozen;
    active_newest = is.shows.active;
    frozen_newest = frozen_newest s.frozen snapshot.frozen is.shows.frozen;
    files = is.shows.files;
  }

  pages_are : pages_in (parts_by_level snapshot.version) ≡ files
  pages_are = flat-map pages_of parts_in (levels_of snapshot.version)

  -- each file's pages agree with its header
  pub files_sound : All IsSound (files_of snapshot.version)
  files_sound = all_from IsSound (files_of snapshot.version) (λ file there.
      let among : Contains (flat_map (λ files. files) (parts_by_level snapshot.version)) (parts_in file) =
      subst (λ (all : List Parts). Contains all (parts_in file)) (sym (flat-parts snapshot.version)) (in_map parts_in (files_of snapshot.version) file there) in
      let from = parts_from s is.shows.coherent (parts_by_level snapshot.version) is.shows.files (parts_in file) among in
      subst (λ (parts : Parts). FileAgrees parts.header.tiles parts.pages) from.2 (All-contains (IsFile s.manifest.next) s.files from.0 (is.shows.coherent).each from.1).agrees)

  abbrev pub IsGot : Option Buffered → List Pending → Bytes → Option Pair → Type 0
  IsGot frozen erases key held = (filed : Option Entry) × IsNewestBelow key snapshot.active.entries (frozen_entries (λ (buffer : Buffered). buffer.entries) frozen) files filed
      × (held ≡ option_and_then (answer_under erases) (first_found key snapshot.active.entries (frozen_entries (λ (buffer : Buffered). buffer.entries) frozen) filed))

  got : (key : Bytes) (held : Option Pair) (filed : Option Entry) → IsNewestBelow key snapshot.active.entries older files filed
      → held ≡ option_and_then (answer_under snapshot.pending) (first_found key snapshot.active.entries older filed) → Found held ≡ answer (after h) (Get key)
  got key held filed newest same = ap Found (same
      ∙ ap (λ erases. option_and_then (answer_under erases) (first_found key snapshot.active.entries older filed)) is.shows.pending
      ∙ get_answers s is.shows.coherent snapshot.active.entries older (parts_by_level snapshot.version) held_by h is.stands key filed (λ none. subst (λ pages. IsNewestIn key pages filed) (sym pages_are) (newest none)))

  pub found : (frozen : Option Buffered) (erases : List Pending) → frozen ≡ snapshot.frozen → erases ≡ snapshot.pending
      → (key : Bytes) (held : Option Pair) → IsGot frozen erases key held → answer (after h) (Get key) ≡ Found held
  found frozen erases frozen_is erases_are key held given =
      let all = subst (λ o. IsGot o snapshot.pending key held) frozen_is (subst (λ l. IsGot frozen l key held) erases_are given) in
      sym (got key held all.0 all.1 all.2)

  abbrev pub IsScanned : Option Buffered → List Pending → Bytes → Bytes → List (Bytes × ℕ × Bytes) → Type 0
  IsScanned frozen erases lo hi pairs = (entries : List Entry) × AreReadBetween lo hi snapshot.active.entries (frozen_entries (λ (buffer : Buffered). buffer.entries) frozen) files entries
      × (by_keys pairs ≡ pairs_of (merged entries erases true))

  scanned : (lo hi : Bytes) (pairs : List (Bytes × ℕ × Bytes)) (entries : List Entry) → AreReadBetween lo hi snapshot.active.entries older files entries
      → by_keys pairs ≡ pairs_of (merged entries snapshot.pending true) → Listed (by_keys pairs) ≡ answer (after h) (Scan lo hi)
  scanned lo hi pairs entries all same = ap Listed (same ∙ ap (λ erases. pairs_of (merged entries erases true)) is.shows.pending)
      ∙ ap Listed (between s.manifest.config.threshold h (layout_of s) is.stands.covers lo hi entries
      (shown_between s is.shows.coherent snapshot.active.entries older (parts_by_level snapshot.version) held_by lo hi entries (λ entry. among entry)))
    where
      among : (entry : Entry) → Contains entries entry ↔ (((Contains snapshot.active.entries entry ⊎ Contains older entry) ⊎ IsPaged (parts_by_level snapshot.version) entry) × IsTrue (is_between lo hi entry.key))
      among entry = subst (λ pages. Contains entries entry ↔ (((Contains snapshot.active.entries entry ⊎ Contains older entry)
          ⊎ Any (λ file. Any (λ page. Contains page entry) file) pages) × IsTrue (is_between lo hi entry.key))) (sym pages_are) (all entry)

  pub listed_between : (frozen : Option Buffered) (erases : List Pending) → frozen ≡ snapshot.frozen → erases ≡ snapshot.pending
      → (lo hi : Bytes) (pairs : List (Bytes × ℕ × Bytes)) → IsScanned frozen erases lo hi pairs → answer (after h) (Scan lo hi) ≡ Listed (by_keys pairs)
  listed_between frozen erases frozen_is erases_are lo hi pairs given =
      let all = subst (λ o. IsScanned o snapshot.pending lo hi pairs) frozen_is (subst (λ l. IsScanned frozen l lo hi pairs) erases_are given) in
      sym (scanned lo hi pairs all.0 all.1 all.2)
