-- What opening comes to.
use Rattle.std.proofs.Common.{◌≡◌, ◌≤◌, ◌+◌, ◌⊎◌, inl, inr, ℕ, Bool, false, cond, All, AllPairs, List, [], ◌∷◌, ◌++◌, length, map, Option, Some, None, refl, sym, ap, ◌∙◌, subst, arith}
use Rattle.std.specs.Prelude.{Contains, filter, ◌==◌}
use Rattle.std.specs.declared.cmp.Ordering.TheVariants.{Less}
use Rattle.std.proofs.lemmas.Bool.Decides.{eqb_tells}
use Rattle.std.proofs.lemmas.List.Elements.{All-head, All-tail}
use Rattle.lethe_base.specs.Keys.{key_cmp}
use Rattle.lethe_header.specs.Facts.{least_key, greatest_key}
use Rattle.std.specs.List.{AllZip}
use Rattle.lethe_base.specs.History.{History, Change}
use Rattle.lethe_base.specs.declared.config.Fields.{Fields}
use Rattle.lethe_base.specs.declared.name.Name.{Name}
use Rattle.lethe_disk.specs.Directory.{Directory, object}
use Rattle.lethe_disk.specs.Disk.{Seen, IsSynced}
use Rattle.lethe_disk.specs.Goes.{Goes}
use Rattle.lethe_disk.specs.Quiet.{IsQuiet}
use Rattle.lethe_disk.specs.declared.disk.Disk.{Ghosts}
use Rattle.lethe_disk.proofs.Going.{goes_quiet, goes_weaker}
use Rattle.lethe_disk.proofs.Quieting.{quiet_itself}
use Rattle.lethe_segment.specs.Segments.{head_bytes, segment_bytes}
use Rattle.lethe_segment.specs.declared.record.Record.{Record}
use Rattle.lethe_header.specs.Headers as headers
use Rattle.lethe_header.specs.declared.header.Header.{Header}
use Rattle.lethe_manifest.specs.declared.manifest.Cited.{Cited}
use Rattle.lethe_manifest.specs.declared.manifest.Manifest.{Manifest}
use Rattle.lethe_commit.specs.declared.objects.Object.{Object}
use Rattle.lethe_commit.specs.Append.{EndsAt}
use Rattle.lethe_commit.specs.Gates.{gate_name}
use Rattle.lethe_commit.specs.Place.{insert_all}
use Rattle.lethe_commit.specs.Switch.{HasGreatest}
use Rattle.lethe_commit.proofs.Creations.{object_contained}
use Rattle.lethe_stored.specs.Files.{Parts, StoredFile, parts_of}
use Rattle.lethe_stored.specs.Stored.{Stored, Segment, IsCoherent, pending_of, part_names, records_in, segment_name, segments_of}
use Rattle.lethe_stored.specs.Encodes.{Encodes}
use Rattle.lethe_stored.specs.Kept.{IsFor, IsKept}
use Rattle.lethe_stored.specs.Left.{IsHistoryOr}
use Rattle.lethe_stored.specs.Levels.{AreRising, HasFiles}
use Rattle.lethe_stored.specs.Numbers.{KeepsPace, IsNextNumber}
use Rattle.lethe_stored.proofs.Firsts.{empty_stands}
use Rattle.lethe_stored.proofs.Lists.{from_map}
use Rattle.lethe_stored.proofs.Numbers.{next_of, next_of_none, pace_encoded, pace_stepped, pace_then}
use Rattle.lethe_stored.proofs.Parts.{active_part}
use Rattle.lethe_stored.proofs.Unique.{none_or_some, one_stored}
use Rattle.lethe_follows.specs.Filed.{reopened}
use Rattle.lethe_follows.specs.Leaving.{let_go}
use Rattle.lethe_follows.proofs.LettingGo.{pending_kept}
use Rattle.lethe_advance.specs.Settled.{IsSettled, HasOnly}
use Rattle.lethe_advance.specs.Shown.{parts_by_level}
use Rattle.lethe_advance.proofs.Placed.{written_absent}
use Rattle.lethe_version.specs.declared.version.Version.{Version}
use Rattle.lethe_load.specs.Loaded.{Read, IsRead, IsLoaded, IsSpelledAs, IsSpelledOut}
use Rattle.lethe_load.specs.Refused.{IsInterrupted, MayRefuse}
use Rattle.lethe_load.specs.declared.refused.RecoverRefused.{RecoverRefused}
use Rattle.lethe_load.specs.declared.refused.RecoverRefused.TheVariants as recover
use Rattle.lethe_recover.specs.Flushing.{IsShort}
use Rattle.lethe_recover.specs.Journals.{IsJournalOf, erases_of}
use Rattle.lethe_recover.specs.New.{new_stored}
use Rattle.lethe_recover.specs.Opening.{IsTold, IsOpened, IsResumed, IsKeptInOpening, IsExhausted, MayNotOpen, IsCut, since_start}
use Rattle.lethe_recover.specs.Reopening.{IsOpenedAs, Reopens}
use Rattle.lethe_recover.specs.Resuming.{IsThere, IsReopened, IsLoadedAs}
use Rattle.lethe_recover.specs.declared.journal.Journal.{Journal}
use Rattle.lethe_recover.specs.declared.opened.Opened.{Opened}
use Rattle.lethe_recover.specs.declared.opening.OpenWhy.{OpenWhy}
use Rattle.lethe_recover.specs.declared.opening.OpenWhy.TheVariants.{Damaged, OtherConfig, Fault, Exhausted, NoMemory}
use Rattle.lethe_recover.specs.declared.reopening.Reopening.{Reopening}
use Rattle.lethe_recover.proofs.Pending.{pending_is}
use Rattle.lethe_recover.proofs.Untorn.{one_untorn, active_plain}

pub quiet_synced : (old new : Seen) → IsQuiet old new → IsSynced old → IsSynced new
quiet_synced old new quiet synced c here =
    let d = quiet.any_moment.each new.moment c quiet.any_moment.later (omega arith) here in
    d.2 ∙ synced d.0 d.1 ∙ sym quiet.directory

-- Refusals

pub since_may : (Tells : Type 0) (config : Fields) (d : Directory) (before old now : ℕ) (why : RecoverRefused) → before ≤ old → MayRefuse Tells config d old now why → MayNotOpen Tells config d before now (since_start before why)
since_may Tells config d before old now (recover.Damaged name) le may = may
since_may Tells config d before old now (recover.Fault told_before told_now) le may = let rose = may.2 in (refl, may.1, omega (arith, le, rose))
since_may Tells config d before old now recover.NoMemory le may = tt
since_may Tells config d before old now (recover.OtherConfig kept) le may = may

pub since_exact : (before old now : ℕ) (told why : RecoverRefused) → before ≤ old → (told ≡ why) ⊎ IsInterrupted old now told → (since_start before told ≡ since_start before why) ⊎ IsCut ⊥ before now (since_start before told)
since_exact before old now told why le (inl same) = inl (ap (since_start before) same)
since_exact before old now told why le (inr cut) = inr (by told cut)
  where
    by : (told : RecoverRefused) → IsInterrupted old now told → IsCut ⊥ before now (since_start before told)
    by (recover.Damaged name) cut = absurd cut
    by (recover.Fault told_before told_now) cut = let rose = cut.2 in (refl, cut.1, omega (arith, le, rose))
    by recover.NoMemory cut = tt
    by (recover.OtherConfig kept) cut = absurd cut

pub cut_may : (Tells IsFull : Type 0) (config : Fields) (d : Directory) (before now : ℕ) → (IsFull → Tells → IsExhausted d) → (why : OpenWhy) → IsCut IsFull before now why → MayNotOpen Tells config d before now why
cut_may Tells IsFull config d before now full (Damaged name) cut = absurd cut
cut_may Tells IsFull config d before now full (OtherConfig kept) cut = absurd cut
cut_may Tells IsFull config d before now full (Fault told_before told_now) cut = cut
cut_may Tells IsFull config d before now full (Exhausted last) cut = (cut.0, full cut.1)
cut_may Tells IsFull config d before now full NoMemory cut = tt

pub same_may : (Tells : Type 0) (config : Fields) (d e : Directory) (before now : ℕ) → (Tells → d ≡ e) → (why : OpenWhy) → MayNotOpen Tells config d before now why → MayNotOpen Tells config e before now why
same_may Tells config d e before now same (Damaged name) may = λ told. subst (λ x. MayNotOpen Tells config x before now (Damaged name)) (same told) may told
same_may Tells config d e before now same (OtherConfig kept) may = λ told. subst (λ x. MayNotOpen Tells config x before now (OtherConfig kept)) (same told) may told
same_may Tells config d e before now same (Fault told_before told_now) may = may
same_may Tells config d e before now same (Exhausted last) may = (may.0, λ told. subst IsExhausted (same told) (may.1 told))
same_may Tells config d e before now same NoMemory may = tt

-- Where the first record goes

empty_long : (number : ℕ) → 11 + 1 ≡ length (segment_bytes number [])
unfolding head_bytes segment_bytes
empty_long number = refl

-- An empty store

module _ (config : Fields) (coherent : IsCoherent (new_stored config)) where
  pub new_stands : IsFor [] (new_stored config)
  new_stands = empty_stands config 2 3 1 coherent.spelled.config (omega arith) (omega arith)

  pub new_kept : (c : Directory) → HasGreatest None c ⊎ Encodes c (new_stored config) → IsKept config c []
  new_kept c (inl none) = inl (none, refl)
  new_kept c (inr made) = inr (record { s = new_stored config; config_is = refl; coherent = coherent; encodes = made; stands = new_stands })

  -- its next number is that of no gate
  pub new_pace : (old new : Seen) → Goes (λ c. HasGreatest None c ⊎ Encodes c (new_stored config)) old new → KeepsPace 3 old.moment old.moment new
  new_pace old new goes moment c low high left next is = elim (goes.each moment c low high left) [
    | inl none ↦ let first = next_of_none c next none is in omega (arith, first, low)
    | inr made ↦ let first : next ≡ 3 = next_of c (new_stored config) next coherent made is in omega (arith, first, low)
  ]

pub kept_of_none : (config : Fields) (d : Directory) (h : History) → HasGreatest None d → IsKept config d h → h ≡ []
kept_of_none config d h none (inl k) = k.1
kept_of_none config d h none (inr k) = absurd (none_or_some d k.s.manifest.no none k.encodes.greatest)

-- One that is reopened

module _ (config : Fields) (d : Directory) (h : History) (s : Stored) (coherent : IsCoherent s) (encodes : Encodes d s) where
  pub kept_for : IsKept config d h → IsFor h s
  kept_for (inl k) = absurd (none_or_some d s.manifest.no k.0 encodes.greatest)
  kept_for (inr k) = subst (IsFor h) (one_stored d k.s s k.coherent coherent k.encodes encodes) k.stands

  pub kept_config : IsKept config d h → s.manifest.config ≡ config
  kept_config (inl k) = absurd (none_or_some d s.manifest.no k.0 encodes.greatest)
  kept_config (inr k) = ap (λ (x : Stored). x.manifest.config) (sym (one_stored d k.s s k.coherent coherent k.encodes encodes)) ∙ k.config_is

pub old_kept : (s : Stored) → IsCoherent s → (c : Directory) → Encodes c s → (h : History) → IsFor h s → IsKept s.manifest.config c h
old_kept s coherent c e h stands = inr (record { s = s; config_is = refl; coherent = coherent; encodes = e; stands = stands })

pub either_kept : (s t : Stored) → t.manifest.config ≡ s.manifest.config → IsCoherent s → IsCoherent t → ((h : History) → IsFor h s → IsFor h t) → (c : Directory) → Encodes c s ⊎ Encodes c t → (h : History) → IsFor h s → IsKept s.manifest.config c h
either_kept s t config_is coherent next then c (inl e) h stands = old_kept s coherent c e h stands
either_kept s t config_is coherent next then c (inr e) h stands = inr (record { s = t; config_is = config_is; coherent = next; encodes = e; stands = then h stands })

module _ {D Page Port : Type 0} {kind : Ghosts D Page Port} (config : Fields) (disk : Seen) where
  pub ends_of : (s : Stored) (opened : Opened D Page Port kind) → IsThere disk s opened → EndsAt disk (segment_name s.active.no) s.active.no [] 11
  ends_of s opened there = record {
    ascends = tt;
    spelled = λ c here. ap (λ x. object x (segment_name s.active.no)) (there.settled.synced c here) ∙ active_plain s disk.directory there.untorn ∙ ap (λ l. Some (segment_bytes s.active.no l)) there.told.active;
    place = empty_long s.active.no;
  }

  abbrev pub opened_of : (start : Directory) (s : Stored) (opened : Opened D Page Port kind) → IsOpenedAs config start s → s.manifest.config ≡ config → IsThere disk s opened → IsOpened config start disk opened
  opened_of start s opened same config_is there = record { s = s; opened_as = same; settled = there.settled; only = there.only; untorn = there.untorn; rising = there.rising; config_is = config_is; told = there.told; ends = ends_of s opened there }

  abbrev pub new_opened : (start : Directory) → HasGreatest None start → (opened : Opened D Page Port kind) → IsThere disk (new_stored config) opened → IsOpened config start disk opened
  new_opened start none opened there = opened_of start (new_stored config) opened (inl (none, refl)) refl there

  pub new_resumed : (h : History) (start : Directory) (opened : Opened D Page Port kind) → HasGreatest None start → h ≡ [] → IsThere disk (new_stored config) opened → IsResumed config h None start disk opened
  new_resumed h start opened none empty there = record { history = h; either = refl; was = inl (none, empty); is = new_opened start none opened there; stands = subst (λ g. IsFor g (new_stored config)) (sym empty) (new_stands config there.settled.coherent) }

  abbrev pub opened_from : (start : Directory) (s : Stored) (opened : Opened D Page Port kind) → IsCoherent s → Encodes start s → s.manifest.config ≡ config → IsReopened s disk opened → IsOpened config start disk opened
  opened_from start s opened coherent e config_is again = opened_of start again.t opened (inr (s, coherent, e, again.reopened_as)) (again.config_is ∙ config_is) again.there

  pub resumed_from : (h : History) (start : Directory) (s : Stored) (opened : Opened D Page Port kind) → IsCoherent s → Encodes start s → s.manifest.config ≡ config → IsFor h s → IsReopened s disk opened → IsResumed config h None start disk opened
  resumed_from h start s opened coherent e config_is stands again = record {
    history = h;
    either = refl;
    was = inr (record { s = s; config_is = config_is; coherent = coherent; encodes = e; stands = stands });
    is = opened_from start s opened coherent e config_is again;
    stands = again.stands h stands;
  }

  -- a disk that was left
  pub from_left : (h g : History) (change : Option Change) → IsHistoryOr h change g → (start : Directory) (opened : Opened D Page Port kind) → IsResumed config g None start disk opened → IsResumed config h change start disk opened
  from_left h g change either start opened is = record { history = is.history; either = subst (IsHistoryOr h change) (sym is.either) either; was = is.was; is = is.is; stands = is.stands }

-- What was read

some_same : (m n : Manifest) → Some m ≡ Some n → m ≡ n
some_same m n e = cc

no_manifest : (m : Manifest) → Some m ≡ None → ⊥
no_manifest m e = cc

pub read_some : (config : Fields) (d : Directory) (read : Read) (m : Manifest) → read.manifest ≡ Some m → IsLoaded config d read → IsRead config d read
read_some config d read m is (inl none) = absurd (no_manifest m (sym is ∙ ap (λ (r : Read). r.manifest) none.1))
read_some config d read m is (inr there) = there

pub read_none : (config : Fields) (d : Directory) (read : Read) → read.manifest ≡ None → IsLoaded config d read → HasGreatest None d
read_none config d read is (inl none) = none.0
read_none config d read is (inr there) = absurd (no_manifest there.s.manifest (sym (ap (λ (r : Read). r.manifest) there.all) ∙ is))

short_for : (s : Stored) (journal : Journal) (m : Manifest) → s.manifest ≡ m → IsJournalOf s journal → IsShort m journal.older journal.newer (erases_of m journal)
    → IsShort s.manifest (records_in s.frozen) s.active.records (pending_of s)
short_for s journal m same is short =
    let erases : erases_of m journal ≡ pending_of s =
    ap (λ (m : Manifest). erases_of m journal) (sym same) ∙ pending_is s journal.older journal.newer is.older is.newer in
    subst (IsShort s.manifest (records_in s.frozen) s.active.records) erases
    (subst (λ (records : List Record). IsShort s.manifest (records_in s.frozen) records (erases_of m journal)) is.newer
    (subst (λ (records : List Record). IsShort s.manifest records journal.newer (erases_of m journal)) is.older
    (subst (λ (m' : Manifest). IsShort m' journal.older journal.newer (erases_of m journal)) (sym same) short)))

module _ (config : Fields) (d : Directory) (read : Read) (there : IsRead config d read) (m : Manifest) (is : read.manifest ≡ Some m) (journal : Journal) (journal_is : (s : Stored) → read.segments ≡ map (λ (segment : Segment). segment.records) (segments_of s) → IsJournalOf s journal) where
  pub manifest_of : there.s.manifest ≡ m
  manifest_of = sym (some_same m there.s.manifest (sym is ∙ ap (λ (r : Read). r.manifest) there.all))

  pub loaded_as : IsLoadedAs there.s m journal read.files
  loaded_as = record { manifest = manifest_of; journal = journal_is there.s (ap (λ (r : Read). r.segments) there.all); files = ap (λ (r : Read). r.files) there.all; rising = there.rising }

  pub exhausted_of : IsShort m journal.older journal.newer (erases_of m journal) → IsExhausted d
  exhausted_of short =
      let is_journal = journal_is there.s (ap (λ (r : Read). r.segments) there.all) in
      record { s = there.s; coherent = there.coherent; encodes = there.encodes; short = short_for there.s journal m manifest_of is_journal short }

pub settled_again : (old new : Seen) → IsQuiet old new → IsSynced old → (s : Stored) → IsCoherent s → Encodes old.directory s → IsSettled new s
settled_again old new quiet synced s coherent e = record { synced = quiet_synced old new quiet synced; coherent = coherent; encodes = subst (λ x. Encodes x s) (sym quiet.directory) e }

-- what opening leaves, for each configuration and history that the directory was kept for at the start
abbrev pub AsKept : Fields → Directory → Directory → Type 0
AsKept config start c = (kept : Fields) (h : History) → IsKept kept start h → IsKeptInOpening kept config h None start c

-- what is kept as it was
pub still_kept : (kept config : Fields) (h : History) (start c : Directory) → IsKept kept c h → IsKeptInOpening kept config h None start c
still_kept kept config h start c k = inl (h, refl, k)

-- what is left of an opening behind a sync
pub from_kept : (kept config : Fields) (h g : History) (change : Option Change) → IsHistoryOr h change g → (synced start : Directory) → synced ≡ start → (c : Directory) → IsKeptInOpening kept config g None synced c → IsKeptInOpening kept config h change start c
from_kept kept config h g change either synced start same c (inl k) = inl (k.0, subst (IsHistoryOr h change) (sym k.1) either, k.2)
from_kept kept config h g change either synced start same c (inr new) = inr (subst (HasGreatest None) same new.0, new.1)

pub kept_goes : (config : Fields) (old new : Seen) → IsQuiet old new → IsSynced old → Goes (AsKept config old.directory) old new
kept_goes config old new quiet synced =
    goes_quiet (AsKept config old.directory) old new quiet (λ d here kept h k. still_kept kept config h old.directory d (subst (λ x. IsKept kept x h) (sym (synced d here)) k))

-- where nothing was done yet
settled_encodes : (disk : Seen) (s : Stored) → IsSettled disk s → Goes (λ c. Encodes c s) disk disk
settled_encodes disk s settled = goes_quiet (λ c. Encodes c s) disk disk (quiet_itself disk) (λ d here. subst (λ x. Encodes x s) (sym (settled.synced d here)) settled.encodes)

pub settled_goes : (disk : Seen) (s : Stored) → IsSettled disk s → Goes (λ c. (h : History) → IsFor h s → IsKept s.manifest.config c h) disk disk
settled_goes disk s settled = goes_weaker (λ c. Encodes c s) (λ c. (h : History) → IsFor h s → IsKept s.manifest.config c h) disk disk (old_kept s settled.coherent) (settled_encodes disk s settled)

-- Numbers keep pace

-- calls that change nothing draw no number
pub quiet_pace : (first since : ℕ) (old new : Seen) → old.moment ≤ since → IsQuiet old new → KeepsPace first old.moment old.moment old → KeepsPace first since since new
quiet_pace first since old new later quiet before moment c low high left next is =
    let d = quiet.any_moment.each moment c (omega (arith, later, low)) high left in
    let bound = before old.moment d.0 (omega arith) (omega arith) d.1 next (subst (λ x. IsNextNumber x next) d.2 is) in
    omega (arith, bound, low)

-- what leaves what is stored draws none
pub encoded_pace : (s : Stored) (m : Manifest) (old new : Seen) → IsCoherent s → s.manifest ≡ m → Goes (λ c. Encodes c s) old new → KeepsPace m.next old.moment old.moment new
encoded_pace s m old new coherent same goes = let next = ap (λ (m : Manifest). m.next) same in pace_encoded s m.next old new coherent (omega (arith, next)) goes

pub settled_pace : (disk : Seen) (s : Stored) (m : Manifest) → IsSettled disk s → s.manifest ≡ m → KeepsPace m.next disk.moment disk.moment disk
settled_pace disk s m settled same = encoded_pace s m disk disk settled.coherent same (settled_encodes disk s settled)

-- What was read has a spelling

files_long : (cited : List Cited) (files : List Parts) → AllZip (λ (file : Cited) (parts : Parts). (parts.header.no ≡ file.no) × headers.HasSpelling parts.header) cited files → length cited ≡ length files
files_long [] [] all = refl
files_long [] (parts ∷ files) all = absurd all
files_long (file ∷ cited) [] all = absurd all
files_long (file ∷ cited) (parts ∷ files) all = omega (arith, files_long cited files all.1)

pub spelled_some : (config : Fields) (read : Read) (m : Manifest) → read.manifest ≡ Some m → IsSpelledOut config read → IsSpelledAs config m read
spelled_some config read m is (inl none) = absurd (no_manifest m (sym is ∙ ap (λ (r : Read). r.manifest) none))
spelled_some config read m is (inr there) = subst (λ x. IsSpelledAs config x read) (some_same there.0 m (sym there.1.manifest ∙ is)) there.1

pub cited_long : (config : Fields) (read : Read) (m : Manifest) → IsSpelledAs config m read → length m.files ≡ length read.files
cited_long config read m spelled = files_long m.files read.files spelled.files

-- What the step comes to

-- files of level 0 in front of others, which ascend
still_rising : (made files : List StoredFile) → All (λ file. file.level ≡ 0) made → AreRising files → AreRising (made ++ files)
still_rising made files zeroth rising level above =
    subst (AllPairs (λ (a b : StoredFile). key_cmp (greatest_key a.header.tiles) (least_key b.header.tiles) ≡ Less)) (sym (rest made zeroth)) (rising level above)
  where
    rest : (made : List StoredFile) → All (λ file. file.level ≡ 0) made → filter (λ (file : StoredFile). file.level == level) (made ++ files) ≡ filter (λ (file : StoredFile). file.level == level) files
    rest [] each = refl
    rest (file ∷ made) each =
        let zero : file.level ≡ 0 = All-head (λ (file : StoredFile). file.level ≡ 0) file made each in
        let other : (file.level == level) ≡ false = elim (eqb_tells file.level level) [ inl alike ↦ absurd (let same = alike.1 in omega (arith, same, zero, above)) | inr apart ↦ apart.0 ] in
        ap (λ (b : Bool). cond b (file ∷ filter (λ (file : StoredFile). file.level == level) (made ++ files)) (filter (λ (file : StoredFile). file.level == level) (made ++ files))) other
        ∙ rest made (All-tail (λ (file : StoredFile). file.level ≡ 0) file made each)

abbrev pub next_stored : (s : Stored) (made : Reopening) → Reopens s made → Stored
next_stored s made is = let_go (reopened s is.files is.segment (is.segment + 1))

module _ {D Page Port : Type 0} {kind : Ghosts D Page Port} (s : Stored) (made : Reopening) (is : Reopens s made) (coherent : IsCoherent s) where
  told_next : (version : Version D Page Port kind) → HasFiles (next_stored s made is) (parts_by_level version) → IsTold (record { manifest = made.step.manifest; version = version }) (next_stored s made is)
  told_next version files = record { manifest = is.step.manifest; files = files; frozen = refl; active = refl; erases = sym (pending_kept (reopened s is.files is.segment (is.segment + 1))) }

  pub reopened_of : (d : Directory) → HasOnly s [] d → AreRising s.files → (disk : Seen) (version : Version D Page Port kind) → IsSettled disk (next_stored s made is) → HasOnly (next_stored s made is) [] disk.directory
      → ((name : Name) → Contains (part_names (next_stored s made is)) name → object disk.directory name ≡ object (insert_all made.step.objects.items d) name) → object disk.directory (gate_name (next_stored s made is).manifest.no) ≡ Some []
      → HasFiles (next_stored s made is) (parts_by_level version) → IsReopened s disk (record { manifest = made.step.manifest; version = version })
  reopened_of d only rising disk version settled alone kept gate files =
      let t = next_stored s made is in
      let found = from_map (λ (object : Object). (object.name, object.bytes)) made.step.objects.items (segment_name is.segment, segment_bytes is.segment []) is.segment_is in
      let written = object_contained made.step.objects.items d found.0 found.1 (written_absent s t [] [] made.headers.items made.step coherent is.step d only) in
      let whole : object (insert_all made.step.objects.items d) (segment_name is.segment) ≡ Some (segment_bytes is.segment []) =
      sym (ap (λ (named : Name × List ℕ). object (insert_all made.step.objects.items d) named.0) found.2) ∙ written ∙ ap (λ (named : Name × List ℕ). Some named.1) found.2 in
      let untorn = one_untorn t disk.directory refl gate (kept (segment_name is.segment) (active_part t) ∙ whole) in
      record {
        t = t;
        reopened_as = is.reopened_as;
        there = record { settled = settled; only = alone; rising = still_rising is.files s.files is.level rising; untorn = untorn; told = told_next version files };
        config_is = refl;
        stands = is.stands;
      }

-- the step draws the numbers of its objects and of the manifest, behind a tidying that draws none
pub reopened_pace : (s : Stored) (m : Manifest) (made : Reopening) (is : Reopens s made) (old mid new : Seen) → IsCoherent s → s.manifest ≡ m → made.step.manifest.next ≡ m.next + length made.step.objects.items + 1
    → Goes (λ c. Encodes c s) old mid → Goes (λ c. Encodes c s ⊎ Encodes c (next_stored s made is)) mid new
    → ((moment : ℕ) (c : Directory) → mid.moment ≤ moment → moment ≤ new.moment → moment ≤ mid.moment + length made.step.objects.items → new.left moment c → Encodes c s) → KeepsPace m.next old.moment old.moment new
reopened_pace s m made is old mid new coherent same drawn tidied stepped early =
    let t = next_stored s made is in
    let count = length made.step.objects.items in
    let was = ap (λ (m : Manifest). m.next) same in
    let next = ap (λ (m : Manifest). m.next) is.step.manifest in
    let later = tidied.later in
    pace_then (λ c. Encodes c s ⊎ Encodes c t) m.next old.moment old.moment m.next mid new (encoded_pace s m old mid coherent same tidied) stepped (omega (arith, later))
    (pace_stepped s t m.next count mid new coherent is.step.coherent (omega (arith, was)) (omega (arith, next, drawn)) stepped early)

-- the headers are those of what is stored
pub heads_of : {F : Type 0} (p : F → Parts) (head : F → Header) → ((file : F) → head file ≡ (p file).header) → (files : List F) (stored : List StoredFile) → map p files ≡ map parts_of stored → map head files ≡ map (λ file. file.header) stored
heads_of p head own [] [] same = refl
heads_of p head own [] (first ∷ stored) same = absurd cc
heads_of p head own (file ∷ files) [] same = absurd cc
heads_of p head own (file ∷ files) (first ∷ stored) same =
    let here : p file ≡ parts_of first = cc in
    let behind : map p files ≡ map parts_of stored = cc in
    let one : head file ≡ first.header = own file ∙ ap (λ (parts : Parts). parts.header) here in
    λ i. one i ∷ heads_of p head own files stored behind i
