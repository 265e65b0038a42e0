-- The least time that a state and the headers remember is that of the oldest obligation.
use Rattle.std.proofs.Common.{◌≡◌, ◌⊎◌, inl, inr, ℕ, ◌+◌, ◌≤◌, min, List, [], ◌∷◌, map, Any, Contains, Option, Some, None, refl, sym, ap, ◌∙◌, subst, arith}
use Rattle.std.specs.Prelude.{flat_map}
use Rattle.std.specs.List.{AllZip}
use Rattle.std.proofs.lemmas.List.Elements.{All-contains}
use Rattle.lethe_base.specs.Held.{IsFiled, IsRecorded}
use Rattle.lethe_base.specs.Layout as layout
use Rattle.lethe_base.specs.Layout.{Layout, entries_of}
use Rattle.lethe_base.specs.Shapes.{earlier, oldest_of}
use Rattle.lethe_base.specs.Spent.{left_erases}
use Rattle.lethe_base.specs.declared.config.Fields.{Fields}
use Rattle.lethe_base.specs.declared.entry.Entry.{Entry}
use Rattle.lethe_base.specs.declared.pending.Pending.{Pending}
use Rattle.lethe_base.proofs.LayoutLaws.{none_in}
use Rattle.lethe_base.proofs.Newest.{first_is, first_or_rest}
use Rattle.lethe_bound.specs.Limits.{IsLimit, IsObligation}
use Rattle.lethe_cover.specs.Changes.{HasTime}
use Rattle.lethe_cover.proofs.Lists.{flat_from, flat_in, in_map, in_rest, map_from}
use Rattle.lethe_cover.proofs.Merging.{IsBy}
use Rattle.lethe_disk.specs.declared.disk.Disk.{Ghosts}
use Rattle.lethe_file.specs.Agreement.{Agrees, entries_in}
use Rattle.lethe_file.specs.declared.view.FileView.{FileView}
use Rattle.lethe_state.specs.Young.{oldest_in, time_of}
use Rattle.lethe_state.proofs.Following.{file_from, file_in}
use Rattle.lethe_header.specs.Facts.{lines_of}
use Rattle.lethe_header.specs.declared.header.PageLine.{PageLine}
use Rattle.lethe_header.specs.declared.header.TileLine.{TileLine}
use Rattle.lethe_segment.specs.declared.record.Record.{Record}
use Rattle.lethe_segment.specs.declared.record.Record.TheVariants as of
use Rattle.lethe_stored.specs.Files.{StoredFile, IsFile, Parts, parts_of, file_of}
use Rattle.lethe_stored.specs.Levels.{HasFiles}
use Rattle.lethe_stored.specs.Stored.{Stored, IsCoherent, layout_of, plain, records_in}
use Rattle.lethe_stored.proofs.FileFacts.{as_many, entries_are}
use Rattle.lethe_stored.proofs.Leveled.{low_level}
use Rattle.lethe_stored.proofs.Meanings.{frozen_are}
use Rattle.lethe_state.proofs.Leveled.{any_mapped, any_unmapped, parts_from, parts_to}
use Rattle.lethe_state.specs.Left.{left_with}
use Rattle.lethe_state.specs.declared.state.State.{State}
use Rattle.lethe_advance.specs.Shown.{parts_by_level, parts_in}
use Rattle.lethe_version.specs.Versions.{levels_of}
use Rattle.lethe_version.specs.declared.version.Version.{Version}
use Rattle.lethe_snapshot.specs.Times.{IsLeast, IsOldestIn, IsRemembered, max_word}
use Rattle.lethe_snapshot.proofs.Least.{least_either, least_same}

-- The least time of some items is at most that of each, and is one's

module _ {X : Type 0} (time : X → Option ℕ) (least : List X → Option ℕ) (none : least [] ≡ None) (more : (x : X) (xs : List X) → least (x ∷ xs) ≡ earlier (time x) (least xs)) where
  least_by : (xs : List X) (x : X) (t : ℕ) → Contains xs x → time x ≡ Some t → IsBy (least xs) t
  least_by [] x t there has = absurd (none_in x there)
  least_by (first ∷ xs) x t there has = subst (λ o. IsBy o t) (sym (more first xs)) (elim (first_or_rest first xs x there) [
    | inl same ↦ left (time first) (least xs) (ap time same ∙ has)
    | inr rest ↦ right (time first) (least xs) (least_by xs x t rest has)
  ])
    where
      left : (a b : Option ℕ) → a ≡ Some t → IsBy (earlier a b) t
      left a b is = grind arith

      right : (a b : Option ℕ) → IsBy b t → IsBy (earlier a b) t
      right a b by = grind arith

  least_from : (xs : List X) (t : ℕ) → least xs ≡ Some t → (x : X) × Contains xs x × (time x ≡ Some t)
  least_from [] t is = absurd (let clash : None ≡ Some t = sym none ∙ is in cc)
  least_from (first ∷ xs) t is = elim (either (time first) (least xs) (sym (more first xs) ∙ is)) [
    | inl own ↦ (first, first_is first xs first refl, own)
    | inr rest ↦ let found = least_from xs t rest in (found.0, in_rest first xs found.0 found.1, found.2)
  ]
    where
      either : (a b : Option ℕ) → earlier a b ≡ Some t → (a ≡ Some t) ⊎ (b ≡ Some t)
      either a b is = grind arith

-- Records

records_by : (records : List Record) (r : Record) (t : ℕ) → Contains records r → time_of r ≡ Some t → IsBy (oldest_in records) t
records_by = least_by time_of oldest_in refl (λ r records. refl)

records_from : (records : List Record) (t : ℕ) → oldest_in records ≡ Some t → (r : Record) × Contains records r × (time_of r ≡ Some t)
records_from = least_from time_of oldest_in refl (λ r records. refl)

entries_by : (entries : List Entry) (entry : Entry) (t : ℕ) → Contains entries entry → entry.since ≡ Some t → IsBy (oldest_of entries) t
entries_by = least_by (λ (entry : Entry). entry.since) oldest_of refl (λ entry entries. refl)

entries_from : (entries : List Entry) (t : ℕ) → oldest_of entries ≡ Some t → (entry : Entry) × Contains entries entry × (entry.since ≡ Some t)
entries_from = least_from (λ (entry : Entry). entry.since) oldest_of refl (λ entry entries. refl)

-- the time of a record, as a layout has it
plain_time : (r : Record) (t : ℕ) → HasTime (plain r) t → time_of r ≡ Some t
plain_time (of.Entry entry) t has = has
plain_time (of.Blind place) t none = absurd none
plain_time (of.Erase erase) t has = ap Some has

-- Pages and their lines

zip_left_of : {X Y : Type 0} (R : X → Y → Type 0) (xs : List X) (ys : List Y) (y : Y) → AllZip R xs ys → Contains ys y → (x : X) × Contains xs x × R x y
zip_left_of R [] [] y zip there = absurd (none_in y there)
zip_left_of R [] (first ∷ ys) y zip there = absurd zip
zip_left_of R (x ∷ xs) [] y zip there = absurd zip
zip_left_of R (x ∷ xs) (first ∷ ys) y zip there = elim (first_or_rest first ys y there) [
  | inl same ↦ (x, first_is x xs x refl, subst (R x) same zip.0)
  | inr rest ↦ let found = zip_left_of R xs ys y zip.1 rest in (found.0, in_rest x xs found.0 found.1, found.2)
]

zip_right_of : {X Y : Type 0} (R : X → Y → Type 0) (xs : List X) (ys : List Y) (x : X) → AllZip R xs ys → Contains xs x → (y : Y) × Contains ys y × R x y
zip_right_of R [] [] x zip there = absurd (none_in x there)
zip_right_of R [] (y ∷ ys) x zip there = absurd zip
zip_right_of R (first ∷ xs) [] x zip there = absurd zip
zip_right_of R (first ∷ xs) (y ∷ ys) x zip there = elim (first_or_rest first xs x there) [
  | inl same ↦ (y, first_is y ys y refl, subst (λ x. R x y) same zip.0)
  | inr rest ↦ let found = zip_right_of R xs ys x zip.1 rest in (found.0, in_rest y ys found.0 found.1, found.2)
]

any_at : {X : Type 0} (P : X → Type 0) (xs : List X) (x : X) → Contains xs x → P x → Any P xs
any_at P xs x there holds = (there.0, x, there.1, there.2, holds)

some_at : {X : Type 0} (P : X → Type 0) (xs : List X) → Any P xs → (x : X) × Contains xs x × P x
some_at P xs any = (any.1, (any.0, any.2, any.3), any.4)

-- the same parts have the same times
times_as : (a b : Parts) (t : ℕ) → a ≡ b → IsOldestIn a.header.tiles t → IsOldestIn b.header.tiles t
times_as a b t same has = subst (λ (parts : Parts). IsOldestIn parts.header.tiles t) same has

-- one of the lines has the time
abbrev HasLine : ℕ → List PageLine → Type 0
HasLine t lines = Any (λ (line : PageLine). line.oldest ≡ Some t) lines

module _ (next : ℕ) (file : StoredFile) (is : IsFile next file) where
  abbrev tiles : List TileLine
  tiles = file.header.tiles

  spelled : entries_of (file_of file) ≡ flat_map entries_in file.pages
  spelled = entries_are tiles file.pages (as_many (lines_of tiles) file.pages is.agrees.pages)

  -- the times of a file's entries are at least those of its lines
  file_by : (entry : Entry) (t : ℕ) → Contains (entries_of (file_of file)) entry → entry.since ≡ Some t → (u : ℕ) × IsOldestIn tiles u × (u ≤ t)
  file_by entry t there has =
      let page = flat_from entries_in file.pages entry (subst (λ entries. Contains entries entry) spelled there) in
      let line = zip_left_of Agrees (lines_of tiles) file.pages page.0 is.agrees.pages page.1 in
      let by : IsBy (line.0).oldest t = subst (λ o. IsBy o t) (line.2).oldest (entries_by (entries_in page.0) entry t page.2 has) in
      let tile = flat_from (λ (tile : TileLine). tile.pages) tiles line.0 line.1 in
      (by.least, any_at (λ (tile : TileLine). HasLine by.least tile.pages) tiles tile.0 tile.1 (any_at (λ (line : PageLine). line.oldest ≡ Some by.least) (tile.0).pages line.0 tile.2 by.is), by.upto)

  -- and those are times of entries
  file_from_line : (t : ℕ) → IsOldestIn tiles t → (entry : Entry) × Contains (entries_of (file_of file)) entry × (entry.since ≡ Some t)
  file_from_line t any =
      let tile = some_at (λ (tile : TileLine). HasLine t tile.pages) tiles any in
      let line = some_at (λ (line : PageLine). line.oldest ≡ Some t) (tile.0).pages tile.2 in
      let page = zip_right_of Agrees (lines_of tiles) file.pages line.0 is.agrees.pages (flat_in (λ (tile : TileLine). tile.pages) tiles tile.0 line.0 tile.1 line.1) in
      let entry = entries_from (entries_in page.0) t ((page.2).oldest ∙ line.2) in
      (entry.0, subst (λ entries. Contains entries entry.0) (sym spelled) (flat_in entries_in file.pages page.0 entry.0 page.1 entry.1), entry.2)

module _ {D Page Port : Type 0} {kind : Ghosts D Page Port} (s : Stored) (coherent : IsCoherent s) (version : Version D Page Port kind) (files : HasFiles s (parts_by_level version)) where
  abbrev l : Layout
  l = layout_of s

  abbrev pub HasOldest : ℕ → Type 0
  HasOldest t = Any (λ files. Any (λ file. IsOldestIn file.header.tiles t) files) (levels_of version)

  sound : (file : StoredFile) → Contains s.files file → IsFile s.manifest.next file
  sound file there = All-contains (IsFile s.manifest.next) s.files file coherent.each there

  -- where the version has a file of a header, its times are the version's
  filed_to : (file : StoredFile) (t : ℕ) → Contains s.files file → IsOldestIn file.header.tiles t → HasOldest t
  filed_to file t there has =
      let parts = flat_from (λ (files : List Parts). files) (parts_by_level version) (parts_of file) (parts_to s coherent (parts_by_level version) files file there) in
      let level = map_from (map parts_in) (levels_of version) parts.0 parts.1 in
      let view = map_from parts_in level.0 (parts_of file) (subst (λ (files : List Parts). Contains files (parts_of file)) (sym level.2) parts.2) in
      any_at (λ files. Any (λ file. IsOldestIn file.header.tiles t) files) (levels_of version) level.0 level.1
      (any_at (λ (file : FileView D Page Port kind). IsOldestIn file.header.tiles t) level.0 view.0 view.1 (times_as (parts_of file) (parts_in view.0) t (sym {a = parts_in view.0} {b = parts_of file} view.2) has))

  filed_by : (entry : Entry) (t : ℕ) → IsFiled l entry → entry.since ≡ Some t → (u : ℕ) × HasOldest u × (u ≤ t)
  filed_by entry t filed has =
      let found = file_from s.manifest.config.levels s.files filed.file filed.there in
      let by = file_by s.manifest.next found.0 (sound found.0 found.1) entry t (subst (λ file. Contains (entries_of file) entry) (sym found.3) filed.spelled) has in
      (by.0, filed_to found.0 by.0 found.1 by.1, by.2)

  filed_from : (t : ℕ) → HasOldest t → (entry : Entry) × IsFiled l entry × (entry.since ≡ Some t)
  filed_from t any =
      let level = some_at (λ files. Any (λ file. IsOldestIn file.header.tiles t) files) (levels_of version) any in
      let view = some_at (λ (file : FileView D Page Port kind). IsOldestIn file.header.tiles t) level.0 level.2 in
      let parts = flat_in (λ (files : List Parts). files) (parts_by_level version) (map parts_in level.0) (parts_in view.0) (in_map (map parts_in) (levels_of version) level.0 level.1) (in_map parts_in level.0 view.0 view.1) in
      let found = parts_from s coherent (parts_by_level version) files (parts_in view.0) parts in
      let has = times_as (parts_in view.0) (parts_of found.0) t (sym {a = parts_of found.0} {b = parts_in view.0} found.2) view.2 in
      let entry = file_from_line s.manifest.next found.0 (sound found.0 found.1) t has in
      (entry.0, record { file = file_of found.0; there = file_in s.manifest.config.levels s.files found.0 found.1 (low_level s coherent found.0 found.1); spelled = entry.1 }, entry.2)

  -- Records of the two segments

  record_is : (r : Record) (t : ℕ) → IsRecorded l (plain r) → time_of r ≡ Some t → IsObligation l t
  record_is (of.Entry entry) t recorded has = inl (entry, 0, inl (recorded, refl), has)
  record_is (of.Blind place) t recorded has = absurd (let clash : None ≡ Some t = has in cc)
  record_is (of.Erase erase) t recorded has = inr (erase, inr recorded, (let same : Some erase.time ≡ Some t = has in cc))

  in_frozen : (r : layout.Record) → Contains (map plain (records_in s.frozen)) r → IsRecorded l r
  in_frozen r there = inr (subst (λ records. Contains records r) (sym (frozen_are s)) there)

  active_is : (t : ℕ) → oldest_in s.active.records ≡ Some t → IsObligation l t
  active_is t is = let found = records_from s.active.records t is in record_is found.0 t (inl (in_map plain s.active.records found.0 found.1)) found.2

  frozen_is : (t : ℕ) → oldest_in (records_in s.frozen) ≡ Some t → IsObligation l t
  frozen_is t is = let found = records_from (records_in s.frozen) t is in record_is found.0 t (in_frozen (plain found.0) (in_map plain (records_in s.frozen) found.0 found.1)) found.2

  segment_by : (records : List Record) (r : layout.Record) (t : ℕ) → Contains (map plain records) r → HasTime r t → IsBy (oldest_in records) t
  segment_by records r t there has =
      let found = map_from plain records r there in
      records_by records found.0 t found.1 (plain_time found.0 t (subst (λ r. HasTime r t) (sym found.2) has))

  -- All

  module _ (first second third least : ℕ) (active : IsLeast s.manifest.clock (λ t. oldest_in s.active.records ≡ Some t) first) (frozen : IsLeast first (λ t. oldest_in (records_in s.frozen) ≡ Some t) second)
      (erases : IsLeast second (λ t. Any (λ (erase : Pending). erase.time ≡ t) (left_erases l)) third) (filed : IsLeast third HasOldest least) where
    by_record : (r : layout.Record) (t : ℕ) → IsRecorded l r → HasTime r t → least ≤ t
    by_record r t recorded has = elim recorded [
      | inl here ↦
          let by = segment_by s.active.records r t here has in
          let low = active.each by.least by.is in
          let upto = by.upto in
          let a = frozen.upto in
          let b = erases.upto in
          let c = filed.upto in
          omega (arith, low, upto, a, b, c)
      | inr before ↦
          let by = segment_by (records_in s.frozen) r t (subst (λ records. Contains records r) (frozen_are s) before) has in
          let low = frozen.each by.least by.is in
          let upto = by.upto in
          let b = erases.upto in
          let c = filed.upto in
          omega (arith, low, upto, b, c)
    ]

    by_file : (entry : Entry) (t : ℕ) → IsFiled l entry → entry.since ≡ Some t → least ≤ t
    by_file entry t there has =
        let by = filed_by entry t there has in
        let low = filed.each by.0 by.1 in
        let upto = by.2 in
        omega (arith, low, upto)

    by_erase : (erase : Pending) (t : ℕ) → Contains (left_erases l) erase → erase.time ≡ t → least ≤ t
    by_erase erase t there same =
        let low = erases.each t (any_at (λ (erase : Pending). erase.time ≡ t) (left_erases l) erase there same) in
        let c = filed.upto in
        omega (arith, low, c)

    pub least_obligation : IsLeast s.manifest.clock (IsObligation l) least
    least_obligation = record {
      upto = let a = active.upto in let b = frozen.upto in let c = erases.upto in let d = filed.upto in omega (arith, a, b, c, d);
      each = λ t is. elim is [
        | inl entry ↦ elim entry.2 [ inl recorded ↦ by_record (layout.Written entry.0) t recorded.0 entry.3 | inr there ↦ by_file entry.0 t there.0 entry.3 ]
        | inr erase ↦ elim erase.1 [ inl there ↦ by_erase erase.0 t there erase.2 | inr recorded ↦ by_record (layout.Erasing erase.0) t recorded erase.2 ]
      ];
      one = elim filed.one [
        | inl d ↦ elim erases.one [
          | inl c ↦ elim frozen.one [
            | inl b ↦ elim active.one [
              | inl a ↦ inl (d ∙ c ∙ b ∙ a)
              | inr has ↦ inr (subst (IsObligation l) (sym (d ∙ c ∙ b)) (active_is first has))
            ]
            | inr has ↦ inr (subst (IsObligation l) (sym (d ∙ c)) (frozen_is second has))
          ]
          | inr has ↦
              let found = some_at (λ (erase : Pending). erase.time ≡ third) (left_erases l) has in
              inr (subst (IsObligation l) (sym d) (inr (found.0, inl found.1, found.2)))
        ]
        | inr has ↦ let found = filed_from least has in inr (inl (found.0, found.1.file.swept, inr (found.1, refl), found.2))
      ];
    }

-- a threshold later than the least of the clock and the obligations is a limit, and fits
pub limit_from : (s : Stored) → IsCoherent s → (fields : Fields) (least limit : ℕ) → fields ≡ s.manifest.config → IsLeast s.manifest.clock (IsObligation (layout_of s)) least
    → limit ≡ min (fields.threshold + least) max_word → IsLimit s.manifest.config.threshold (layout_of s) limit
limit_from s coherent fields least limit same is capped = record {
  clock = let low = is.upto in omega (arith, low, sum);
  oldest = λ time obligation. let low = is.each time obligation in omega (arith, low, sum);
  one = elim is.one [
    | inl clock ↦ inl (sum ∙ ap (λ time. s.manifest.config.threshold + time) clock)
    | inr has ↦ inr (least, has, sum)
  ];
}
  where
    sum : limit ≡ s.manifest.config.threshold + least
    sum =
        let spelled = coherent.spelled in
        let clock = spelled.clock in
        let threshold = spelled.config.threshold in
        let low = is.upto in
        let config : fields.threshold ≡ s.manifest.config.threshold = ap (λ (f : Fields). f.threshold) same in
        omega (arith, clock, threshold, low, config, capped)

-- On any disk

abbrev IsIn : ℕ → List (List Parts) → Type 0
IsIn t levels = Any (λ files. Any (λ (parts : Parts). IsOldestIn parts.header.tiles t) files) levels

module _ {D Page Port : Type 0} {kind : Ghosts D Page Port} (version : Version D Page Port kind) (t : ℕ) where
  -- the times of the lines are those of the files' parts
  parts_have : Any (λ files. Any (λ file. IsOldestIn file.header.tiles t) files) (levels_of version) → IsIn t (parts_by_level version)
  parts_have any =
      let files = some_at (λ files. Any (λ (file : FileView D Page Port kind). IsOldestIn file.header.tiles t) files) (levels_of version) any in
      any_at (λ files. Any (λ (parts : Parts). IsOldestIn parts.header.tiles t) files) (parts_by_level version) (map parts_in files.0) (in_map (map parts_in) (levels_of version) files.0 files.1)
      (any_mapped (λ (parts : Parts). IsOldestIn parts.header.tiles t) parts_in files.0 files.2)

  had_by_parts : IsIn t (parts_by_level version) → Any (λ files. Any (λ file. IsOldestIn file.header.tiles t) files) (levels_of version)
  had_by_parts any =
      let parts = some_at (λ files. Any (λ (parts : Parts). IsOldestIn parts.header.tiles t) files) (parts_by_level version) any in
      let files = map_from (map parts_in) (levels_of version) parts.0 parts.1 in
      any_at (λ files. Any (λ (file : FileView D Page Port kind). IsOldestIn file.header.tiles t) files) (levels_of version) files.0 files.1
      (any_unmapped (λ (parts : Parts). IsOldestIn parts.header.tiles t) parts_in files.0 (subst (Any (λ (parts : Parts). IsOldestIn parts.header.tiles t)) (sym files.2) parts.2))

-- the least of what is remembered
pub least_remembered : {D Page Port : Type 0} {kind : Ghosts D Page Port} (state : State) (version : Version D Page Port kind) (first second third least : ℕ)
    → IsLeast state.manifest.clock (λ t. state.oldest ≡ Some t) first → IsLeast first (λ t. state.frozen_oldest ≡ Some t) second
    → IsLeast second (λ t. Any (λ (erase : Pending). erase.time ≡ t) (left_with state)) third
    → IsLeast third (λ t. Any (λ files. Any (λ file. IsOldestIn file.header.tiles t) files) (levels_of version)) least
    → IsLeast state.manifest.clock (IsRemembered state (parts_by_level version)) least
least_remembered state version first second third least active frozen erases filed =
    let parts = least_same third least _ (λ t. IsIn t (parts_by_level version)) (parts_have version) (had_by_parts version) filed in
    least_either state.manifest.clock first least _ _ active (least_either first second least _ _ frozen (least_either second third least _ _ erases parts))
