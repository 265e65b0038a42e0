-- What reads answer over what is remembered.
use Rattle.std.proofs.Common.{◌≡◌, ◌⊎◌, ℕ, true, List, [], ◌∷◌, ◌++◌, map, All, Any, Contains, IsTrue, Option, Some, None, option_and_then, refl, sym, ap, ◌∙◌, subst}
use Rattle.std.specs.Prelude.{◌↔◌, flat_map}
use Rattle.std.proofs.lemmas.List.{map-append, map-id}
use Rattle.std.proofs.lemmas.List.Elements.{All-contains}
use Rattle.std.proofs.lemmas.Simd.{map-map}
use Rattle.lethe_base.specs.Entries.{IsAscending}
use Rattle.lethe_base.specs.History.{History, Pair, after}
use Rattle.lethe_base.specs.Keys.{Bytes}
use Rattle.lethe_base.specs.Matching.{answer_under}
use Rattle.lethe_base.specs.Read.{Get, Scan, Found, Listed, answer, is_between}
use Rattle.lethe_base.specs.declared.config.Fields.{Fields}
use Rattle.lethe_base.specs.declared.entry.Entry.{Entry}
use Rattle.lethe_base.specs.declared.pending.Pending.{Pending}
use Rattle.lethe_disk.specs.declared.disk.Disk.{Ghosts}
use Rattle.lethe_file.specs.Agreement.{FileAgrees}
use Rattle.lethe_cover.proofs.Lists.{in_map}
use Rattle.lethe_mem.specs.Buffered.{Buffered}
use Rattle.lethe_mem.specs.Pairs.{pairs_of}
use Rattle.lethe_merge.specs.Merge.{merged}
use Rattle.lethe_stored.specs.Files.{IsFile, Parts}
use Rattle.lethe_stored.specs.Kept.{IsFor}
use Rattle.lethe_stored.specs.Left.{without_failed}
use Rattle.lethe_stored.specs.Replayed.{AreNewestOf}
use Rattle.lethe_stored.specs.Stored.{Stored, Segment, layout_of, records_in}
use Rattle.lethe_moves.proofs.Scanning.{scanned as between}
use Rattle.lethe_stored.proofs.Lists.{all_from}
use Rattle.lethe_version.specs.Newest.{IsNewestIn}
use Rattle.lethe_version.specs.Versions.{IsSound, entries_of, files_of, levels_of}
use Rattle.lethe_version.specs.declared.version.Version.{Version}
use Rattle.lethe_follows.specs.Holders.{IsHeldBy, IsPaged, pages_in, pages_of}
use Rattle.lethe_follows.proofs.Answering.{get_answers, shown_between}
use Rattle.lethe_state.proofs.Recording.{newest_none}
use Rattle.lethe_advance.specs.Shown.{parts_by_level, parts_in}
use Rattle.lethe_read.specs.Between.{AreReadBetween, by_keys}
use Rattle.lethe_read.specs.Found.{IsNewestBelow, first_found, frozen_entries}
use Rattle.lethe_state.proofs.Leveled.{parts_from}
use Rattle.lethe_state.specs.Remembered.{IsFrozenIn, Remembers}
use Rattle.lethe_state.specs.declared.state.State.{State}
use Rattle.lethe_engine.specs.Reads.{listed}
use Rattle.lethe_core.specs.StandsNow.{StandsNow}
use Rattle.lethe_core.specs.View.{view_of}
use Rattle.lethe_core.specs.declared.holding.Core.{Core}
use Rattle.lethe_core.proofs.Histories.{after_without}

-- The files as readers have them

flat-map : {X Y Z : Type 0} (g : Y → Z) (f : X → Y) (levels : List (List X)) → map g (flat_map (λ files. files) (map (map f) levels)) ≡ map (λ x. g (f x)) (flat_map (λ files. files) levels)
flat-map g f [] = refl
flat-map g f (files ∷ levels) =
    map-append g (map f files) (flat_map (λ files. files) (map (map f) levels))
    ∙ (λ i. map-map g f files i ++ flat-map g f levels i)
    ∙ sym (map-append (λ x. g (f x)) files (flat_map (λ files. files) levels))

-- The buffers

frozen_newest : (o : Option Segment) (frozen : Option Buffered) → IsFrozenIn o frozen → AreNewestOf (records_in o) (frozen_entries (λ (buffer : Buffered). buffer.entries) frozen)
frozen_newest None None is = newest_none [] refl
frozen_newest (Some segment) (Some buffer) is = is
frozen_newest None (Some buffer) is = absurd is
frozen_newest (Some segment) None is = absurd is

frozen_ascends : (frozen : Option Buffered) → IsAscending (frozen_entries (λ (buffer : Buffered). buffer.entries) frozen)
frozen_ascends None = refl
frozen_ascends (Some buffer) = buffer.ascending

flat-parts : {D Page Port : Type 0} {kind : Ghosts D Page Port} (version : Version D Page Port kind) → flat_map (λ files. files) (parts_by_level version) ≡ map parts_in (files_of version)
flat-parts version = sym (map-id (flat_map (λ files. files) (parts_by_level version))) ∙ flat-map (λ (p : Parts). p) parts_in (levels_of version)

module _ {D Page Port : Type 0} {kind : Ghosts D Page Port} (version : Version D Page Port kind) (s : Stored) (state : State) (remembers : Remembers s state (parts_by_level version)) where
  abbrev frozen : List Entry
  frozen = frozen_entries (λ (buffer : Buffered). buffer.entries) state.frozen

  held_by : IsHeldBy s state.active.entries frozen (parts_by_level version)
  held_by = record {
    active_ascends = state.active.ascending;
    frozen_ascends = frozen_ascends state.frozen;
    active_newest = remembers.active;
    frozen_newest = frozen_newest s.frozen state.frozen remembers.frozen;
    files = remembers.files;
  }

  pages_are : pages_in (parts_by_level version) ≡ map entries_of (files_of version)
  pages_are = flat-map pages_of parts_in (levels_of version)

  -- each file's pages agree with its header
  pub files_sound : All IsSound (files_of version)
  files_sound = all_from IsSound (files_of version) (λ file there.
      let among : Contains (flat_map (λ files. files) (parts_by_level version)) (parts_in file) = subst (λ (all : List Parts). Contains all (parts_in file)) (sym (flat-parts version)) (in_map parts_in (files_of version) file there) in
      let from = parts_from s remembers.coherent (parts_by_level version) remembers.files (parts_in file) among in
      subst (λ (parts : Parts). FileAgrees parts.header.tiles parts.pages) from.2 (All-contains (IsFile s.manifest.next) s.files from.0 (remembers.coherent).each from.1).agrees)

  module _ (h : History) (stands : IsFor h s) where
    pub got : (key : Bytes) (held : Option Pair) (filed : Option Entry) → IsNewestBelow key state.active.entries frozen (map entries_of (files_of version)) filed
        → held ≡ option_and_then (answer_under state.pending) (first_found key state.active.entries frozen filed) → Found held ≡ answer (after h) (Get key)
    got key held filed newest is = ap Found (is
        ∙ ap (λ erases. option_and_then (answer_under erases) (first_found key state.active.entries frozen filed)) remembers.pending
        ∙ get_answers s remembers.coherent state.active.entries frozen (parts_by_level version) held_by h stands key filed (λ none. subst (λ pages. IsNewestIn key pages filed) (sym pages_are) (newest none)))

    pub scanned : (lo hi : Bytes) (pairs : List (Bytes × ℕ × Bytes)) (entries : List Entry) → AreReadBetween lo hi state.active.entries frozen (map entries_of (files_of version)) entries
        → by_keys pairs ≡ pairs_of (merged entries state.pending true) → listed pairs ≡ answer (after h) (Scan lo hi)
    scanned lo hi pairs entries all is = ap Listed (is ∙ ap (λ erases. pairs_of (merged entries erases true)) remembers.pending)
        ∙ ap Listed (between s.manifest.config.threshold h (layout_of s) stands.covers lo hi entries (shown_between s remembers.coherent state.active.entries frozen (parts_by_level version) held_by lo hi entries (λ entry. among entry)))
      where
        among : (entry : Entry) → Contains entries entry ↔ (((Contains state.active.entries entry ⊎ Contains frozen entry) ⊎ IsPaged (parts_by_level version) entry) × IsTrue (is_between lo hi entry.key))
        among entry = subst (λ pages. Contains entries entry ↔ (((Contains state.active.entries entry ⊎ Contains frozen entry) ⊎ Any (λ file. Any (λ page. Contains page entry) file) pages) × IsTrue (is_between lo hi entry.key))) (sym pages_are) (all entry)

-- Over what a store stands for

-- what the two reads gave, by the frozen buffer and the erases
abbrev pub IsGot : State → Option Buffered → List Pending → List (List (List Entry)) → Bytes → Option Pair → Type 0
IsGot state older erases files key held = (filed : Option Entry) × IsNewestBelow key state.active.entries (frozen_entries (λ (buffer : Buffered). buffer.entries) older) files filed
    × (held ≡ option_and_then (answer_under erases) (first_found key state.active.entries (frozen_entries (λ (buffer : Buffered). buffer.entries) older) filed))

abbrev pub IsScanned : State → Option Buffered → List Pending → List (List (List Entry)) → Bytes → Bytes → List (Bytes × ℕ × Bytes) → Type 0
IsScanned state older erases files lo hi pairs = (entries : List Entry) × AreReadBetween lo hi state.active.entries (frozen_entries (λ (buffer : Buffered). buffer.entries) older) files entries
    × (by_keys pairs ≡ pairs_of (merged entries erases true))

module _ {D Page Port : Type 0} {kind : Ghosts D Page Port} (core : Core D Page Port kind) (config : Fields) (h : History) (stands : StandsNow config h (view_of core)) where
  abbrev files : List (List (List Entry))
  files = map entries_of (files_of core.version)

  pub stored_sound : All IsSound (files_of core.version)
  stored_sound = files_sound core.version stands.stored core.state stands.remembers

  module _ (older : Option Buffered) (erases : List Pending) (older_is : older ≡ core.state.frozen) (erases_are : erases ≡ core.state.pending) where
    pub found : (key : Bytes) (held : Option Pair) → IsGot core.state older erases files key held → answer (after h) (Get key) ≡ Found held
    found key held given =
        let is = subst (λ o. IsGot core.state o core.state.pending files key held) older_is (subst (λ l. IsGot core.state older l files key held) erases_are given) in
        ap (λ st. answer st (Get key)) (sym (after_without h)) ∙ sym (got core.version stands.stored core.state stands.remembers (without_failed h) stands.stands key held is.0 is.1 is.2)

    pub listed_between : (lo hi : Bytes) (pairs : List (Bytes × ℕ × Bytes)) → IsScanned core.state older erases files lo hi pairs → answer (after h) (Scan lo hi) ≡ listed pairs
    listed_between lo hi pairs given =
        let is = subst (λ o. IsScanned core.state o core.state.pending files lo hi pairs) older_is (subst (λ l. IsScanned core.state older l files lo hi pairs) erases_are given) in
        ap (λ st. answer st (Scan lo hi)) (sym (after_without h)) ∙ sym (scanned core.version stands.stored core.state stands.remembers (without_failed h) stands.stands lo hi pairs is.0 is.1 is.2)
