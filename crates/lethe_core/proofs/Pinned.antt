-- Pins that are made and let go: the pages that they name, and what stands with one pin more or less.
use Rattle.std.proofs.Common.{◌≡◌, ◌⊎◌, ◌<◌, inl, inr, ℕ, ◌+◌, List, [], ◌∷◌, ◌++◌, map, length, get_or, take, Option, Some, None, refl, sym, ap, ◌∙◌, subst, append-nil, arith, Bool, true, false, not, cond, ltb, filter}
use Rattle.std.specs.Prelude.{◌↔◌, ◌==◌, All, Any, Contains, IsTrue, flat_map, not, unwrap_or}
use Rattle.std.specs.Cmp.{IsEquivalence, and_equiv, nat_eq_equiv, on_equiv}
use Rattle.std.specs.List.{dedup}
use Rattle.std.specs.List.Sorted.{IsPermutation, IsSorted, IsStrictlySortedBy}
use Rattle.std.specs.declared.cmp.Ordering.TheVariants.{Less}
use Rattle.std.proofs.lemmas.Grind.{flat_map-append}
use Rattle.std.proofs.lemmas.List.{take_more}
use Rattle.std.proofs.lemmas.List.Folds.{flat_map-map}
use Rattle.std.proofs.lemmas.List.Elements.{All-contains, All-filter, All-from_recursion}
use Rattle.std.proofs.lemmas.List.Kept.{AllPairs-cons, Contains-dedup, Contains-from_dedup, IsStrictlySortedBy-dedup}
use Rattle.std.proofs.lemmas.List.Sorted.{Contains-permutation, IsPermutation-sym}
use Rattle.lethe_base.specs.Configuration.{IsConfig}
use Rattle.lethe_base.specs.Held.{InFiles}
use Rattle.lethe_base.specs.History.{History, after}
use Rattle.lethe_base.specs.Layout.{files_of}
use Rattle.lethe_base.specs.Matching.{IsPut}
use Rattle.lethe_base.specs.Names.{name_cmp, name_eq, name_eq_ties, name_no, name_rank, name_total}
use Rattle.lethe_base.specs.Placed.{IsPlaced}
use Rattle.lethe_base.specs.declared.config.Fields.{Fields}
use Rattle.lethe_base.specs.declared.entry.Entry.{Entry}
use Rattle.lethe_base.specs.declared.name.Kind.TheVariants.{Page}
use Rattle.lethe_base.specs.declared.name.Name.{Name}
use Rattle.lethe_bound.specs.Limits.{HoldsPut, IsBounded, IsLimit}
use Rattle.lethe_bound.proofs.Bounds.{bounded_now, limit_above}
use Rattle.lethe_cover.proofs.Lists.{all_from, flat_from, flat_in, in_map, map_from, only_in}
use Rattle.lethe_disk.specs.Directory.{Directory, content}
use Rattle.lethe_file.specs.Agreement.{page_name}
use Rattle.lethe_file.specs.Agreement as agreement
use Rattle.lethe_follows.proofs.Following.{file_in}
use Rattle.lethe_header.specs.Facts.{lines_of}
use Rattle.lethe_header.specs.declared.header.PageLine.{PageLine}
use Rattle.lethe_stored.specs.Encodes.{Encodes, HasObject}
use Rattle.lethe_stored.specs.Files.{IsFile, Parts, StoredFile, file_of, lines_in, objects_of, parts_of}
use Rattle.lethe_stored.specs.Kept.{IsFor}
use Rattle.lethe_stored.specs.Levels.{HasFiles}
use Rattle.lethe_stored.specs.Stored.{IsCoherent, Stored, layout_of}
use Rattle.lethe_stored.proofs.FileFacts.{as_many, entries_are}
use Rattle.lethe_stored.proofs.Leveled.{from_filter, low_level}
use Rattle.lethe_stored.proofs.Lists.{in_flat, no_pairs}
use Rattle.lethe_install.proofs.Parted.{same_name}
use Rattle.lethe_pins.specs.Held.{AreHeld, Ascend, Held, is_named, placed, placed_by, without}
use Rattle.lethe_pins.specs.declared.pin.Pin.{Pin}
use Rattle.lethe_pins.proofs.Placed.{all_placed}
use Rattle.lethe_state.specs.Remembered.{Remembers}
use Rattle.lethe_state.proofs.Leveled.{parts_from, parts_to}
use Rattle.lethe_core.specs.Pinned.{AreTimely, IsPageIn, IsPageUntil, pages_in}
use Rattle.lethe_core.specs.Running.{Holds, IsRunning, IsSound}
use Rattle.lethe_core.specs.StandsNow.{IsOpenOrStopped, StandsNow}
use Rattle.lethe_core.specs.View.{Limited, View, face_of, limited_of}
use Rattle.lethe_core.proofs.Paged.{page_of}
use Rattle.lethe_core.proofs.Standing.{stands_for, stands_holds}
use Rattle.lethe_core.proofs.Timely.{named_there, there_named}
use Rattle.lethe_core.specs.Pins.{IsPinOf, with_pin, without_pin}

-- Some element of a list

any_at : {X : Type 0} (P : X → Type 0) (xs : List X) (x : X) → Contains xs x → P x → Any P xs
any_at P xs x there holds = (there.0, x, there.1, there.2, holds)

some_at : {X : Type 0} (P : X → Type 0) (xs : List X) → Any P xs → (x : X) × Contains xs x × P x
some_at P xs any = (any.1, (any.0, any.2, any.3), any.4)

-- one of a list's items more
pub flat_more : {X : Type 0} (levels : List (List X)) (i : ℕ) → i < length levels → flat_map (λ files. files) (take (i + 1) levels) ≡ flat_map (λ files. files) (take i levels) ++ get_or levels i []
flat_more {X} levels i within = ap (flat_map (λ (files : List X). files)) (take_more levels i [] within)
    ∙ flat_map-append (λ (files : List X). files) (take i levels) (get_or levels i [] ∷ [])
    ∙ ap (λ l. flat_map (λ (files : List X). files) (take i levels) ++ l) (append-nil (get_or levels i []))

-- The names of pages

-- those of these lines
abbrev pub names_at : List PageLine → List Name
names_at lines = map (λ (line : PageLine). page_name line.no) lines

abbrev HasLine : Name → Parts → Type 0
HasLine name parts = Any (λ line. page_name line.no ≡ name) (lines_of parts.header.tiles)

-- the names of the pages of all files are those of the pages by level
module _ {V : Type 0} (view : V → Parts) (levels : List (List V)) (name : Name) where
  abbrev names_by : V → List Name
  names_by file = names_at (lines_of (view file).header.tiles)

  pub page_in : Contains (flat_map names_by (flat_map (λ files. files) levels)) name → IsPageIn (map (map view) levels) name
  page_in there =
      let file = flat_from names_by (flat_map (λ (files : List V). files) levels) name there in
      let files = flat_from (λ (files : List V). files) levels file.0 file.1 in
      let line = map_from (λ (line : PageLine). page_name line.no) (lines_of (view file.0).header.tiles) name file.2 in
      any_at (Any (HasLine name)) (map (map view) levels) (map view files.0) (in_map (map view) levels files.0 files.1)
      (any_at (HasLine name) (map view files.0) (view file.0) (in_map view files.0 file.0 files.2)
      (any_at (λ (line : PageLine). page_name line.no ≡ name) (lines_of (view file.0).header.tiles) line.0 line.1 line.2))

  pub in_page : IsPageIn (map (map view) levels) name → Contains (flat_map names_by (flat_map (λ files. files) levels)) name
  in_page any =
      let level = some_at (Any (HasLine name)) (map (map view) levels) any in
      let files = map_from (map view) levels level.0 level.1 in
      let parts = some_at (HasLine name) level.0 level.2 in
      let file = map_from view files.0 parts.0 (subst (λ (l : List Parts). Contains l parts.0) (sym files.2) parts.1) in
      let line = some_at (λ (line : PageLine). page_name line.no ≡ name) (lines_of (parts.0).header.tiles) parts.2 in
      flat_in names_by (flat_map (λ (files : List V). files) levels) file.0 name (flat_in (λ (files : List V). files) levels files.0 file.0 files.1 file.1)
      (subst (λ (p : Parts). Contains (names_at (lines_of p.header.tiles)) name) (sym file.2)
      (subst (Contains (names_at (lines_of (parts.0).header.tiles))) line.2 (in_map (λ (line : PageLine). page_name line.no) (lines_of (parts.0).header.tiles) line.0 line.1)))

-- the pages that readers have are those of the stored files
pub page_stored : (s : Stored) → IsCoherent s → (levels : List (List Parts)) → HasFiles s levels → (name : Name) → IsPageIn levels name → Contains (pages_in s.files) name
page_stored s coherent levels has name any =
    let level = some_at (Any (HasLine name)) levels any in
    let parts = some_at (HasLine name) level.0 level.2 in
    let line = some_at (λ (line : PageLine). page_name line.no ≡ name) (lines_of (parts.0).header.tiles) parts.2 in
    let file = parts_from s coherent levels has parts.0 (flat_in (λ (files : List Parts). files) levels level.0 parts.0 level.1 parts.1) in
    let own : Contains (lines_in file.0) line.0 = subst (λ (p : Parts). Contains (lines_of p.header.tiles) line.0) (sym file.2) line.1 in
    subst (Contains (pages_in s.files)) line.2 (in_map (λ (line : PageLine). page_name line.no) (flat_map lines_in s.files) line.0 (flat_in lines_in s.files file.0 line.0 file.1 own))

pub stored_page : (s : Stored) → IsCoherent s → (levels : List (List Parts)) → HasFiles s levels → (name : Name) → Contains (pages_in s.files) name → IsPageIn levels name
stored_page s coherent levels has name there =
    let line = map_from (λ (line : PageLine). page_name line.no) (flat_map lines_in s.files) name there in
    let file = flat_from lines_in s.files line.0 line.1 in
    let level = flat_from (λ (files : List Parts). files) levels (parts_of file.0) (parts_to s coherent levels has file.0 file.1) in
    any_at (Any (HasLine name)) levels level.0 level.1 (any_at (HasLine name) level.0 (parts_of file.0) level.2
    (any_at (λ (line : PageLine). page_name line.no ≡ name) (lines_in file.0) line.0 file.2 line.2))

-- The pages of stored files

-- an entry of a page is the file's
page_entry : (s : Stored) → IsCoherent s → (file : StoredFile) → Contains s.files file → (page : List ℕ) → Contains file.pages page → (entry : Entry) → Contains (agreement.entries_in page) entry
    → InFiles (files_of (layout_of s)) entry
page_entry s coherent file there page paged entry inside =
    let is = All-contains (IsFile s.manifest.next) s.files file coherent.each there in
    let all = entries_are file.header.tiles file.pages (as_many (lines_in file) file.pages is.agrees.pages) in
    record {
      file = file_of file;
      there = file_in s.manifest.config.levels s.files file there (low_level s coherent file there);
      spelled = subst (λ (entries : List Entry). Contains entries entry) (sym all) (in_flat agreement.entries_in file.pages page entry paged inside);
    }

module _ (s : Stored) (coherent : IsCoherent s) (h : History) (for : IsFor h s) (limit : ℕ) (is_limit : IsLimit s.manifest.config.threshold (layout_of s) limit) where
  abbrev threshold : ℕ
  threshold = s.manifest.config.threshold

  -- nothing that was put there was erased more than a threshold before the limit
  entry_bounded : (entry : Entry) → InFiles (files_of (layout_of s)) entry → IsPut entry.body → IsBounded threshold limit h (entry.seq ∷ [])
  entry_bounded entry filed put = bounded_now threshold limit h (layout_of s) for.covers is_limit for.clock (entry.seq ∷ []) (all_from (HoldsPut (layout_of s)) (entry.seq ∷ []) (λ place there. record {
    entry = entry;
    swept = filed.file.swept;
    held = inr (filed, refl);
    put = put;
    seq = only_in entry.seq place there;
  }))

  pub page_until : (d : Directory) → Encodes d s → (name : Name) → Contains (pages_in s.files) name → IsPageUntil threshold limit h (content d name)
  page_until d encodes name there =
      let page = page_of s coherent name there in
      let here : content d name ≡ page.bytes = ap (λ (o : Option (List ℕ)). unwrap_or o []) (All-contains (HasObject d) (objects_of s.files) (name, page.bytes) encodes.parts.files page.object) in
      let entries = agreement.entries_in page.bytes in
      let inside : (entry : Entry) → Contains entries entry → InFiles (files_of (layout_of s)) entry = page_entry s coherent page.file page.there page.bytes page.paged in
      subst (IsPageUntil threshold limit h) (sym here) (record {
        entries = entries;
        spelled = record { class = page.line.class; spelled = page.agrees.page.spelled; is = page.agrees.spelled };
        placed = all_from (λ (entry : Entry). IsPut entry.body → IsPlaced h entry.seq entry.key entry.body) entries
            (λ entry there put. let filed = inside entry there in for.covers.places.entries entry filed.file.swept (inr (filed, refl)));
        bounded = all_from (λ (entry : Entry). IsPut entry.body → IsBounded threshold limit h (entry.seq ∷ [])) entries (λ entry there. entry_bounded entry (inside entry there));
      })

  -- a pin that is made now isn't reached yet
  pub limit_ahead : (after h).clock < limit
  limit_ahead =
      let config : IsConfig s.manifest.config = coherent.spelled.config in
      let from = config.threshold.0 in
      subst (λ clock. clock < limit) for.clock (limit_above threshold limit h (layout_of s) for.covers is_limit (omega (arith, from)))

-- Names in order, each once

name_equivalence : IsEquivalence name_eq
name_equivalence = and_equiv (on_equiv name_rank nat_eq_equiv) (on_equiv name_no nat_eq_equiv)

rising_pairs : (names : List Name) → IsStrictlySortedBy name_cmp names → Ascend names
unfolding IsStrictlySortedBy
rising_pairs [] is = no_pairs (λ (a b : Name). name_cmp a b ≡ Less)
rising_pairs (name ∷ names) is =
    AllPairs-cons (λ (a b : Name). name_cmp a b ≡ Less) name names (All-from_recursion (λ (b : Name). name_cmp name b ≡ Less) names is.0) (rising_pairs names is.1)

-- of names that are sorted, one of each
pub once_ascends : (names : List Name) → IsSorted name_cmp names → Ascend (dedup name_eq names)
once_ascends names sorted = rising_pairs (dedup name_eq names) (IsStrictlySortedBy-dedup name_total name_eq_ties names sorted)

-- of names in another order, one of each: these are the same names
pub once_same : (names sorted : List Name) → IsPermutation names sorted → (name : Name) → Contains (dedup name_eq sorted) name ↔ Contains names name
once_same names sorted same name = (
  (λ there. Contains-permutation sorted names name (IsPermutation-sym names sorted same) (Contains-from_dedup name_eq sorted name there)),
  (λ there. Contains-dedup name_equivalence same_name sorted name (Contains-permutation names sorted name same there)),
)

-- where the files of one level more come, as they are shared, so do the names of their pages
pub names_more : {S V : Type 0} (file_in : S → V) (names_of : V → List Name) (levels : List (List V)) (i : ℕ) (before after : List Name) (shared : List S) → i < length levels → map file_in shared ≡ get_or levels i []
    → before ≡ flat_map names_of (flat_map (λ files. files) (take i levels)) → after ≡ before ++ flat_map (λ one. names_of (file_in one)) shared → after ≡ flat_map names_of (flat_map (λ files. files) (take (i + 1) levels))
names_more {V = V} file_in names_of levels i before after shared within same is more =
    let some = flat_map (λ (files : List V). files) (take i levels) in
    more ∙ (λ k. is k ++ (sym (flat_map-map names_of file_in shared) ∙ ap (flat_map names_of) same) k)
    ∙ sym (ap (flat_map names_of) (flat_more levels i within) ∙ flat_map-append names_of some (get_or levels i []))

-- all of them are of pages
pub pages_all : {V : Type 0} (view : V → Parts) (files : List V) → All (λ (name : Name). name.kind ≡ Page) (flat_map (λ file. names_at (lines_of (view file).header.tiles)) files)
pages_all view files = all_from (λ (name : Name). name.kind ≡ Page) (flat_map (λ file. names_at (lines_of (view file).header.tiles)) files) (λ name there.
    let file = flat_from (λ file. names_at (lines_of (view file).header.tiles)) files name there in
    let line = map_from (λ (line : PageLine). page_name line.no) (lines_of (view file.0).header.tiles) name file.2 in
    sym (ap (λ (name : Name). name.kind) line.2))

-- the names of the pages of all files, sorted, each once
module _ {V : Type 0} (view : V → Parts) (levels : List (List V)) (names sorted once : List Name) (all : names ≡ flat_map (λ file. names_at (lines_of (view file).header.tiles)) (flat_map (λ files. files) levels))
    (same : IsPermutation names sorted) (is : once ≡ dedup name_eq sorted) where
  once_from : (name : Name) → Contains once name → Contains (flat_map (λ file. names_at (lines_of (view file).header.tiles)) (flat_map (λ files. files) levels)) name
  once_from name there = subst (λ l. Contains l name) all ((once_same names sorted same name).0 (subst (λ l. Contains l name) is there))

  pub once_pages : All (λ (name : Name). name.kind ≡ Page) once
  once_pages = all_from (λ (name : Name). name.kind ≡ Page) once (λ name there. All-contains (λ (name : Name). name.kind ≡ Page) _ name (pages_all view (flat_map (λ files. files) levels)) (once_from name there))

  pub once_each : (name : Name) → Contains once name ↔ IsPageIn (map (map view) levels) name
  once_each name = (
    (λ there. page_in view levels name (once_from name there)),
    (λ any. subst (λ l. Contains l name) (sym is) ((once_same names sorted same name).1 (subst (λ l. Contains l name) (sym all) (in_page view levels name any)))),
  )

-- One pin more

-- each one is the new one, or was held
placed_from : (pin : Pin) (pins : List Pin) (other : Pin) → Contains (placed pin pins) other → (pin ≡ other) ⊎ Contains pins other
placed_from pin pins other there =
    All-contains (λ other. (pin ≡ other) ⊎ Contains pins other) (placed pin pins) other
    (all_placed (λ other. (pin ≡ other) ⊎ Contains pins other) pin pins (inl refl) (all_from (λ other. (pin ≡ other) ⊎ Contains pins other) pins (λ other held. inr held))) there

-- what is named is named by the new one, or was named
named_from : (pin : Pin) (pins : List Pin) (name : Name) → IsTrue (is_named (placed pin pins) name) → Contains pin.names name ⊎ IsTrue (is_named pins name)
named_from pin pins name named =
    let found = there_named (placed pin pins) name named in
    elim (placed_from pin pins found.0 found.1) [
      | inl same ↦ inl (subst (λ (pin : Pin). Contains pin.names name) (sym same) found.2)
      | inr held ↦ inr (named_there pins found.0 name held found.2)
    ]

-- all but the pins are as they were
abbrev pub with_pins : View → Held → View
with_pins view held = record view { pins = held }

-- what speaks of the disk alone stays
held_as : (config : Fields) (h : History) (s : Stored) (view : View) (held : Held) → (IsRunning view s → IsRunning (with_pins view held) s) → (stopped : Option ℕ)
    → IsOpenOrStopped config view h s stopped → IsOpenOrStopped config (with_pins view held) h s stopped
held_as config h s view held goes None is = (is.0, goes is.1)
held_as config h s view held goes (Some at) is = is

module _ (view : View) (held : Held) where
  abbrev now : View
  now = with_pins view held

  -- with other pins that keep no page but those of stored files and retired ones
  pins_running : (s : Stored) → ((name : Name) → IsTrue (is_named held.pins name) → Contains (pages_in s.files) name ⊎ Contains view.retired name) → IsRunning view s → IsRunning now s
  pins_running s kept running = record {
    settled = running.settled;
    only = running.only;
    uncited = running.uncited;
    untorn = running.untorn;
    copied = running.copied;
    kept = kept;
    rising = running.rising;
    ends = running.ends;
    current = running.current;
    tasked = running.tasked;
  }

  module _ (kept : (s : Stored) → Remembers s view.state view.levels → IsRunning view s → (name : Name) → IsTrue (is_named held.pins name) → Contains (pages_in s.files) name ⊎ Contains view.retired name) where
    pub pins_holds : (s : Stored) → Holds view s → Holds now s
    pins_holds s holds = record { remembers = holds.remembers; running = pins_running s (kept s holds.remembers holds.running) holds.running }

    pub pins_sound : (Tells : Type 0) → AreHeld held → All (λ pin. All (λ name. name.kind ≡ Page) pin.names) held.pins → IsSound Tells view → IsSound Tells now
    pins_sound Tells are pages sound = record {
      writable = sound.writable;
      small = sound.small;
      count = sound.count;
      flights = sound.flights;
      flies = sound.flies;
      loose = sound.loose;
      drawn = sound.drawn;
      pins = are;
      pages = pages;
      held = λ told. let is = sound.held told in (is.0, is.1, λ runs. pins_running is.0 (kept is.0 is.1 (is.2 runs)) (is.2 runs));
    }

    pub pins_stands : (config : Fields) (h : History) (stands : StandsNow config h view)
        → (view.state.stopped ≡ None → AreTimely config.threshold h held.pins view.retired view.disk.directory) → StandsNow config h now
    pins_stands config h stands timely = record {
      legal = stands.legal;
      count = stands.count;
      stored = stands.stored;
      remembers = stands.remembers;
      config_is = stands.config_is;
      stands = stands.stands;
      held = held_as config h stands.stored view held (λ running. pins_running stands.stored (kept stands.stored stands.remembers running) running) view.state.stopped stands.held;
      counted = stands.counted;
      recorded = stands.recorded;
      timely = timely;
    }

module _ (view : View) (pin : Pin) (made : ℕ) (each : (name : Name) → Contains pin.names name → IsPageIn view.levels name) where
  abbrev more : Held
  more = record { pins = placed pin view.pins.pins; made = made }

  -- what the new pin names is a page of a stored file
  pinned_kept : (s : Stored) → Remembers s view.state view.levels → IsRunning view s → (name : Name) → IsTrue (is_named (placed pin view.pins.pins) name) → Contains (pages_in s.files) name ⊎ Contains view.retired name
  pinned_kept s remembers running name named = elim (named_from pin view.pins.pins name named) [
    | inl own ↦ inl (page_stored s remembers.coherent view.levels remembers.files name (each name own))
    | inr old ↦ running.kept name old
  ]

  pub pinned_holds : (s : Stored) → Holds view s → Holds (with_pins view more) s
  pinned_holds = pins_holds view more pinned_kept

  pub pinned_sound : (Tells : Type 0) → AreHeld more → All (λ (name : Name). name.kind ≡ Page) pin.names → IsSound Tells view → IsSound Tells (with_pins view more)
  pinned_sound Tells are pages sound = pins_sound view more pinned_kept Tells are (all_placed (λ (pin : Pin). All (λ (name : Name). name.kind ≡ Page) pin.names) pin view.pins.pins pages sound.pages) sound

  pub pinned_stands : ((s : Stored) → Remembers s view.state view.levels → IsLimit s.manifest.config.threshold (layout_of s) pin.limit) → (config : Fields) (h : History) → StandsNow config h view
      → StandsNow config h (with_pins view more)
  pinned_stands limit config h stands = pins_stands view more pinned_kept config h stands (λ runs.
      let s = stands.stored in
      let holds = stands_holds config h view stands runs in
      let for = stands_for config h view stands runs in
      let is_limit = limit s stands.remembers in
      let coherent = stands.remembers.coherent in
      let d = view.disk.directory in
      let old = stands.timely runs in
      record {
        limits = all_placed (λ (pin : Pin). (after h).clock < pin.limit) pin view.pins.pins (limit_ahead s coherent h for pin.limit is_limit) old.limits;
        pinned = all_placed (λ (pin : Pin). All (λ name. IsPageUntil config.threshold pin.limit h (content d name)) pin.names) pin view.pins.pins
            (all_from (λ (name : Name). IsPageUntil config.threshold pin.limit h (content d name)) pin.names (λ name there.
            subst (λ (config : Fields). IsPageUntil config.threshold pin.limit h (content d name)) stands.config_is
            (page_until s coherent h for pin.limit is_limit d holds.running.settled.encodes name (page_stored s coherent view.levels stands.remembers.files name (each name there))))) old.pinned;
        left = old.left;
      })

-- One pin less

module _ (view : View) (number : ℕ) where
  abbrev fewer : Held
  fewer = record view.pins { pins = without number view.pins.pins }

  -- what is named still was named
  still_named : (name : Name) → IsTrue (is_named (without number view.pins.pins) name) → IsTrue (is_named view.pins.pins name)
  still_named name named =
      let found = there_named (without number view.pins.pins) name named in
      named_there view.pins.pins found.0 name (from_filter (λ (pin : Pin). not (pin.number == number)) view.pins.pins found.0 found.1).0 found.2

  released_kept : (s : Stored) → Remembers s view.state view.levels → IsRunning view s → (name : Name) → IsTrue (is_named (without number view.pins.pins) name) → Contains (pages_in s.files) name ⊎ Contains view.retired name
  released_kept s remembers running name named = running.kept name (still_named name named)

  pub released_holds : (s : Stored) → Holds view s → Holds (with_pins view fewer) s
  released_holds = pins_holds view fewer released_kept

  pub released_sound : (Tells : Type 0) → AreHeld fewer → IsSound Tells view → IsSound Tells (with_pins view fewer)
  released_sound Tells are sound = pins_sound view fewer released_kept Tells are
      (All-filter (λ (pin : Pin). not (pin.number == number)) (λ (pin : Pin). All (λ (name : Name). name.kind ≡ Page) pin.names) view.pins.pins sound.pages) sound

  pub released_stands : (config : Fields) (h : History) → StandsNow config h view → StandsNow config h (with_pins view fewer)
  released_stands config h stands = pins_stands view fewer released_kept config h stands (λ runs.
      let old = stands.timely runs in
      let test = λ (pin : Pin). not (pin.number == number) in
      record {
        limits = All-filter test (λ (pin : Pin). (after h).clock < pin.limit) view.pins.pins old.limits;
        pinned = All-filter test (λ (pin : Pin). All (λ name. IsPageUntil config.threshold pin.limit h (content view.disk.directory name)) pin.names) view.pins.pins old.pinned;
        left = old.left;
      })

-- What a user sees of the pins that are held, where one comes and where one goes

pub limited_placed : (pin : Pin) (pins : List Pin) → map limited_of (placed pin pins) ≡ placed_by (λ (limited : Limited). limited.limit) (limited_of pin) (map limited_of pins)
limited_placed pin [] = refl
limited_placed pin (first ∷ pins) = by (ltb pin.limit first.limit) (limited_placed pin pins)
  where
    by : (b : Bool) → map limited_of (placed pin pins) ≡ placed_by (λ (limited : Limited). limited.limit) (limited_of pin) (map limited_of pins)
        → map limited_of (cond b (pin ∷ first ∷ pins) (first ∷ placed pin pins))
        ≡ cond b (limited_of pin ∷ limited_of first ∷ map limited_of pins) (limited_of first ∷ placed_by (λ (limited : Limited). limited.limit) (limited_of pin) (map limited_of pins))
    by true is = refl
    by false is = ap (λ l. limited_of first ∷ l) is

pub limited_without : (number : ℕ) (pins : List Pin) → map limited_of (without number pins) ≡ filter (λ pin. not (pin.number == number)) (map limited_of pins)
limited_without number [] = refl
limited_without number (pin ∷ pins) = by (not (pin.number == number)) (limited_without number pins)
  where
    by : (b : Bool) → map limited_of (without number pins) ≡ filter (λ pin. not (pin.number == number)) (map limited_of pins)
        → map limited_of (cond b (pin ∷ without number pins) (without number pins))
        ≡ cond b (limited_of pin ∷ filter (λ pin. not (pin.number == number)) (map limited_of pins)) (filter (λ pin. not (pin.number == number)) (map limited_of pins))
    by true is = ap (λ l. limited_of pin ∷ l) is
    by false is = is

-- where a pin of the next number came
pub pinned_face_is : (old new : View) (number limit : ℕ) → new ≡ record old { pins = new.pins } → number ≡ old.pins.made + 1 → IsPinOf old new number limit → face_of new ≡ with_pin (face_of old) limit
pinned_face_is old new number limit same next is =
    let pin : ℕ → Pin = λ n. record { number = n; names = is.names; limit = limit } in
    ap face_of same ∙ ap (λ (held : Held). record (face_of old) { made = held.made; held = map limited_of held.pins }) is.is
    ∙ ap (λ n. record (face_of old) { made = n; held = map limited_of (placed (pin n) old.pins.pins) }) next
    ∙ ap (λ l. record (face_of old) { made = old.pins.made + 1; held = l }) (limited_placed (pin (old.pins.made + 1)) old.pins.pins)

-- where the pin of a number went
pub released_face_is : (old new : View) (number : ℕ) → new ≡ record old { pins = record old.pins { pins = without number old.pins.pins } } → face_of new ≡ without_pin (face_of old) number
released_face_is old new number same = ap face_of same ∙ ap (λ l. record (face_of old) { held = l }) (limited_without number old.pins.pins)
