-- The record of a change is appended.
use Rattle.std.proofs.Common.{◌≡◌, ◌⊎◌, ◌<◌, inl, inr, ℕ, ◌+◌, ◌-◌, List, [], ◌∷◌, ◌++◌, map, length, get_or, cond, Option, Some, None, refl, sym, ap, ◌∙◌, subst, arith}
use Rattle.std.specs.Prelude.{All, AllPairs, Contains, IsSome, false, option_to_list, slice_index}
use Rattle.std.specs.FinMap.{insert}
use Rattle.std.proofs.lemmas.List.Elements.{All-contains, All-weaker, Contains-append_left}
use Rattle.lethe_base.specs.History.{History, Change}
use Rattle.lethe_base.specs.Limits.{max_place}
use Rattle.lethe_base.specs.declared.call.Call.{Call}
use Rattle.lethe_base.specs.declared.call.Did.TheVariants.{Done, Failed}
use Rattle.lethe_base.specs.declared.config.Fields.{Fields}
use Rattle.lethe_base.specs.declared.name.Kind.TheVariants as kinds
use Rattle.lethe_base.specs.declared.name.Name.{Name}
use Rattle.lethe_base.specs.declared.pending.Pending.{Pending}
use Rattle.lethe_disk.specs.Directory.{Directory, object, SameBut}
use Rattle.lethe_disk.specs.Disk.{Seen, Image, IsSynced}
use Rattle.lethe_disk.specs.Goes.{Goes}
use Rattle.lethe_disk.specs.Runs.{Leads}
use Rattle.lethe_disk.proofs.Going.{goes_leads}
use Rattle.lethe_disk.proofs.Objects.{name_cases, object_inserted, object_beside_insert}
use Rattle.lethe_segment.specs.declared.record.Record.{Record}
use Rattle.lethe_segment.specs.Records.{record_bytes, record_seq, RecordHasSpelling}
use Rattle.lethe_segment.specs.Segments.{segment_bytes, last_seq}
use Rattle.lethe_segment.proofs.Runs.{holds_spelling}
use Rattle.lethe_cover.specs.Steps.{with_done, with_failed}
use Rattle.lethe_commit.specs.Append.{EndsAt, IsReady, IsAppended, IsUntouched, longer}
use Rattle.lethe_stored.specs.Encodes.{Encodes, HasObject}
use Rattle.lethe_stored.specs.Kept.{IsFor}
use Rattle.lethe_stored.specs.Left.{IsLeft, IsKeptOr, is_work}
use Rattle.lethe_stored.specs.Numbers.{GoesFrom, KeepsPace}
use Rattle.lethe_stored.specs.Steps.{addition}
use Rattle.lethe_stored.specs.Stored.{Stored, Segment, IsCited, IsCoherent, number_of, segment_name, part_names, appended, count_of, pending_of}
use Rattle.lethe_stored.proofs.Numbers.{goes_from_encoded, next_of}
use Rattle.lethe_stored.proofs.Parts.{active_part}
use Rattle.lethe_stored.proofs.Steps.{append_encodes, append_keeps, active_changed, stored_appended}
use Rattle.lethe_advance.specs.Settled.{AreUncited, HasOnly, names_in}
use Rattle.lethe_advance.specs.Untorn.{IsUntorn}
use Rattle.lethe_clean.proofs.Stays.{record_untorn}
use Rattle.lethe_manifest.specs.Manifests.{AreErases}
use Rattle.lethe_manifest.specs.declared.manifest.Manifest.{Manifest}
use Rattle.lethe_state.proofs.Recording.{entered_remembered}
use Rattle.lethe_state.specs.Records.{IsNext, halted, pending_with}
use Rattle.lethe_state.specs.Remembered.{Remembers}
use Rattle.lethe_state.specs.Writable.{IsWritable}
use Rattle.lethe_state.specs.declared.state.State.{State}
use Rattle.lethe_job.proofs.Staying.{stays_appended}
use Rattle.lethe_pins.specs.declared.pin.Pin.{Pin}
use Rattle.lethe_core.specs.Asked.{done_by}
use Rattle.lethe_core.specs.Changes.{with_record}
use Rattle.lethe_core.specs.Pinned.{AreKept, AreTimely}
use Rattle.lethe_core.specs.Running.{Holds, IsRunning, IsSound, IsTasked}
use Rattle.lethe_core.specs.StandsNow.{StandsNow}
use Rattle.lethe_core.specs.View.{Flying, View, beside_in, loose_in, names_beside}
use Rattle.lethe_core.proofs.Beside.{beside_stays}
use Rattle.lethe_core.proofs.Hindered.{halted_remembered}
use Rattle.lethe_core.proofs.Standing.{left_at_end, next_drawn, stands_done, stands_for, stopped_stands}
use Rattle.lethe_core.proofs.Timely.{there_named, timely_kept, timely_more}

-- the last of the manifest's segments is the active one
last_number : (o : Option Segment) (number : ℕ) → slice_index (map number_of (option_to_list o) ++ number ∷ []) (length (map number_of (option_to_list o) ++ number ∷ []) - 1) ≡ number
last_number None number = refl
last_number (Some older) number = refl

pub active_number : (s : Stored) (view : View) → Remembers s view.state view.levels → slice_index view.state.manifest.segments (length view.state.manifest.segments - 1) ≡ s.active.no
active_number s view is = ap (λ l. slice_index l (length l - 1)) (ap (λ (m : Manifest). m.segments) is.manifest ∙ is.coherent.cites) ∙ last_number s.frozen s.active.no

-- the jobs in flight merge or sweep the same files and apply the same erases
tasked_appended : (s : Stored) (next : Record) → count_of s < record_seq next → AllPairs (λ a b. a.seq < b.seq) (pending_with (pending_of s) next) → IsCoherent (appended s next)
    → (flights : List Flying) → All (IsTasked s) flights → All (IsTasked (appended s next)) flights
tasked_appended s next behind rise coherent flights are = All-weaker (IsTasked s) (IsTasked (appended s next)) (λ flying is. stays_appended s flying.task is next behind rise coherent) flights are

-- objects beside the one that is written
all_beside : (d : Directory) (name : Name) (bytes : List ℕ) (objects : List (Name × List ℕ)) → All (λ named. named.0 ≡ name → ⊥) objects → All (HasObject d) objects → All (HasObject (insert d name bytes)) objects
all_beside d name bytes objects apart there = λ k other below. object_beside_insert d name bytes (get_or objects k other).0 (apart k other below) ∙ there k other below

-- the disk and the state went on, and all else is as it was
abbrev pub moved : View → Seen → ℕ → State → View
moved view disk' faults' state' = record view { disk = disk'; faults = faults'; state = state' }

-- The store may have taken memory for the record first.
module _ (view : View) (s : Stored) (holds : Holds view s) (next : Record) (spelled : RecordHasSpelling next) (place : record_seq next ≡ view.state.count + 1)
    (number : ℕ) (number_is : number ≡ slice_index view.state.manifest.segments (length view.state.manifest.segments - 1)) where
  running : IsRunning view s
  running = holds.running

  coherent : IsCoherent s
  coherent = holds.remembers.coherent

  pub name_is : segment_name number ≡ segment_name s.active.no
  name_is = ap segment_name (number_is ∙ active_number s view holds.remembers)

  behind : count_of s < record_seq next
  behind = let count = running.current.count in omega (arith, count, place)

  pub above : last_seq 0 s.active.records < record_seq next
  above = let count = running.current.count in omega (arith, count, place)

  pub coherent_next : IsCoherent (appended s next)
  coherent_next = stored_appended s next coherent spelled above

  pub ready : (body : List ℕ) → body ≡ record_bytes next → IsReady view.disk (segment_name number) view.state.end body (addition s next)
  ready body bytes = record {
    ends = subst (λ n. EndsAt view.disk n s.active.no s.active.records view.state.end) (sym name_is) running.ends;
    spelled = spelled;
    above = above;
    bytes = bytes;
  }

  -- each image is the directory
  encoded : (d : Directory) → Image view.disk d → Encodes d s
  encoded d here = subst (λ x. Encodes x s) (sym (running.settled.synced d here)) running.settled.encodes

  -- with the record or without it the next number is the same
  pub record_pace : IsWritable view.state → (disk' : Seen) → Leads (IsAppended (segment_name number) view.state.end (addition s next)) view.disk disk' → KeepsPace view.state.next view.disk.moment view.disk.moment disk'
  record_pace writable disk' run moment c low high left most is =
      let below = next_drawn view s writable holds.remembers in
      let came = run.each moment c low high left in
      elim (append_encodes s next view.state.end came.0 c coherent (encoded came.0 came.1) (subst (λ n. IsAppended n view.state.end (addition s next) came.0 c) name_is came.2)) [
        | inl old ↦ let same = next_of c s most coherent old is in omega (arith, same, below, low)
        | inr new ↦ let same = next_of c (appended s next) most coherent_next new is in omega (arith, same, below, low)
      ]

  module _ (h : History) (caller : ℕ) (call : Call) (for : IsFor h s) (with : IsFor (with_done h caller call) (appended s next)) where
    left_for : (d c : Directory) → Image view.disk d → IsAppended (segment_name number) view.state.end (addition s next) d c → IsKeptOr s.manifest.config h (Some (done_by caller call)) c
    left_for d c here left = elim (append_keeps h (with_done h caller call) s next view.state.end d c coherent (encoded d here) for coherent_next with (subst (λ n. IsAppended n view.state.end (addition s next) d c) name_is left)) [
      | inl old ↦ (h, inl refl, old)
      | inr new ↦ (with_done h caller call, inr refl, new)
    ]

    left_moments : (disk' : Seen) → Leads (IsAppended (segment_name number) view.state.end (addition s next)) view.disk disk' → Goes (IsKeptOr s.manifest.config h (Some (done_by caller call))) view.disk disk'
    left_moments disk' run = goes_leads (IsKeptOr s.manifest.config h (Some (done_by caller call))) (IsAppended (segment_name number) view.state.end (addition s next)) view.disk disk' run left_for

    pub moments : (config : Fields) → s.manifest.config ≡ config → IsWritable view.state → (disk' : Seen) → Leads (IsAppended (segment_name number) view.state.end (addition s next)) view.disk disk'
        → GoesFrom view.state.next (IsKeptOr config h (Some (done_by caller call))) view.disk disk'
    moments config same writable disk' run =
        subst (λ (fields : Fields). GoesFrom view.state.next (IsKeptOr fields h (Some (done_by caller call))) view.disk disk') same (record { goes = left_moments disk' run; pace = record_pace writable disk' run })

  -- nothing was touched
  pub untouched_moments : (config : Fields) → s.manifest.config ≡ config → IsWritable view.state → (h : History) → IsFor h s → (R : Directory → Directory → Type 0) (disk' : Seen) → Leads R view.disk disk' → IsUntouched view.disk disk'
      → GoesFrom view.state.next (IsKeptOr config h None) view.disk disk'
  untouched_moments config same writable h for R disk' run still =
      goes_from_encoded (IsKeptOr config h None) s view.state.next view.disk disk' coherent (next_drawn view s writable holds.remembers)
      (record {
        later = run.later;
        past = run.past;
        each = λ m c low high here.
            let moment = still.moment in
            let now_is : m ≡ disk'.moment = omega (arith, low, high, moment) in
            encoded c ((still.images c).0 (subst (λ n. disk'.left n c) now_is here));
      })
      (λ c is. (h, refl, inr (record { s = s; config_is = same; coherent = coherent; encodes = is; stands = for })))

  -- the record stands there
  module _ (disk' : Seen) (faults' : ℕ) (state' : State) (done : disk'.directory ≡ insert view.disk.directory (segment_name number) (segment_bytes s.active.no (longer (addition s next)))) where
    pub inserted : disk'.directory ≡ with_record view.disk.directory s next
    inserted = done ∙ ap (λ n. insert view.disk.directory n (segment_bytes s.active.no (longer (addition s next)))) name_is

    beside_record : (other : Name) → (other ≡ segment_name s.active.no → ⊥) → object disk'.directory other ≡ object view.disk.directory other
    beside_record other apart = ap (λ d. object d other) inserted ∙ object_beside_insert view.disk.directory (segment_name s.active.no) (segment_bytes s.active.no (longer (addition s next))) other apart

    within : (other : Name) → IsSome (object disk'.directory other) → IsCited (appended s next) other ⊎ Contains (names_in (beside_in view)) other
    within other there = elim (name_cases other (segment_name s.active.no)) [
      | inl same ↦ inl (inr (inr (subst (Contains (part_names s)) (sym same) (active_part s))))
      | inr apart ↦ running.only.only other (subst IsSome (beside_record other apart) there)
    ]

    beside_there : All (HasObject disk'.directory) (beside_in view)
    beside_there =
        let apart : All (λ named. named.0 ≡ segment_name s.active.no → ⊥) (beside_in view) =
        All-weaker (λ named. IsCited s named.0 → ⊥) (λ named. named.0 ≡ segment_name s.active.no → ⊥) (λ named uncited same. uncited (inr (inr (subst (Contains (part_names s)) (sym same) (active_part s))))) (beside_in view) running.uncited in
        subst (λ d. All (HasObject d) (beside_in view)) (sym inserted) (all_beside view.disk.directory (segment_name s.active.no) (segment_bytes s.active.no (longer (addition s next))) (beside_in view) apart running.only.there)

    same_beside : beside_in (moved view disk' faults' state') ≡ beside_in view
    same_beside = beside_stays view.disk.directory disk'.directory view.retired view.flights beside_there

    pub holds_longer : (end : ℕ) → IsSynced disk' → EndsAt disk' (segment_name number) s.active.no (longer (addition s next)) end → IsNext next end view.state state'
        → AreErases (pending_with view.state.pending next) → Holds (moved view disk' faults' state') (appended s next)
    holds_longer end synced ends is erases =
        let both = entered_remembered s view.state state' view.levels next end holds.remembers running.current is place (subst AreErases (sym is.pending) erases) coherent_next in
        let rise = subst (λ pending. AllPairs (λ (a b : Pending). a.seq < b.seq) (pending_with pending next)) holds.remembers.pending erases.ascending in
        record {
          remembers = both.0;
          running = record {
            settled = record {
              synced = synced;
              coherent = coherent_next;
              encodes = active_changed s view.disk.directory disk'.directory (longer (addition s next)) coherent running.settled.encodes beside_record (record {
                bytes = segment_bytes s.active.no (longer (addition s next));
                there = ap (λ d. object d (segment_name s.active.no)) inserted ∙ object_inserted view.disk.directory (segment_name s.active.no) (segment_bytes s.active.no (longer (addition s next)));
                holds = holds_spelling s.active.no (longer (addition s next));
              });
            };
            only = subst (λ l. HasOnly (appended s next) l disk'.directory) (sym same_beside) (record { only = within; there = beside_there });
            uncited = subst (AreUncited (appended s next)) (sym same_beside) running.uncited;
            untorn = subst (IsUntorn (appended s next)) (sym inserted) (record_untorn s view.disk.directory next coherent running.untorn);
            copied = running.copied;
            kept = running.kept;
            rising = running.rising;
            ends = subst (EndsAt disk' (segment_name s.active.no) s.active.no (longer (addition s next))) (sym is.end_is) (subst (λ n. EndsAt disk' n s.active.no (longer (addition s next)) end) name_is ends);
            current = both.1;
            tasked = tasked_appended s next behind rise coherent_next view.flights running.tasked;
          };
        }

-- What pins name are pages, and no segment

pub pages_beside : (pins : List Pin) → All (λ pin. All (λ name. name.kind ≡ kinds.Page) pin.names) pins → (d c : Directory) (number : ℕ) → SameBut (segment_name number) d c → AreKept pins d c
pages_beside pins each d c number same name named =
    let found = there_named pins name named in
    let pages = All-contains (λ (pin : Pin). All (λ (name : Name). name.kind ≡ kinds.Page) pin.names) pins found.0 each found.1 in
    let page : name.kind ≡ kinds.Page = All-contains (λ (name : Name). name.kind ≡ kinds.Page) (found.0).names name pages found.2 in
    same name (λ e. let clash : kinds.Page ≡ kinds.Segment = sym page ∙ ap (λ (n : Name). n.kind) e in cc)

pub beside_segment : (Tells : Type 0) (view : View) → IsSound Tells view → (d : Directory) (number : ℕ) → SameBut (segment_name number) view.disk.directory d → AreKept view.pins.pins view.disk.directory d
beside_segment Tells view sound d number same = pages_beside view.pins.pins sound.pages view.disk.directory d number same

-- What pins keep where the record stands there

module _ (view : View) (s : Stored) (next : Record) (d : Directory) (is : d ≡ with_record view.disk.directory s next) (Tells : Type 0) (sound : IsSound Tells view) where
  -- a page is no segment
  page_stays : (name : Name) → name.kind ≡ kinds.Page → object d name ≡ object view.disk.directory name
  page_stays name page = ap (λ d. object d name) is ∙ object_beside_insert view.disk.directory (segment_name s.active.no) (segment_bytes s.active.no (longer (addition s next))) name
      (λ e. let clash : kinds.Page ≡ kinds.Segment = sym page ∙ ap (λ (n : Name). n.kind) e in cc)

  pub record_kept : AreKept view.pins.pins view.disk.directory d
  record_kept name named =
      let found = there_named view.pins.pins name named in
      let pages = All-contains (λ (pin : Pin). All (λ (name : Name). name.kind ≡ kinds.Page) pin.names) view.pins.pins found.0 sound.pages found.1 in
      page_stays name (All-contains (λ (name : Name). name.kind ≡ kinds.Page) (found.0).names name pages found.2)

  -- the change leaves the clock
  pub record_timely : Tells → (threshold : ℕ) (h : History) (caller : ℕ) (call : Call) → IsFor h s → IsFor (with_done h caller call) (appended s next)
      → AreTimely threshold h view.pins.pins view.retired view.disk.directory → AreTimely threshold (with_done h caller call) view.pins.pins view.retired d
  record_timely told threshold h caller call for with timely =
      timely_more threshold h view.pins.pins view.retired d (record { caller = caller; call = call; did = Done }) (sym with.clock ∙ for.clock)
      (timely_kept threshold h view.pins.pins view.retired view.retired view.disk.directory d record_kept timely (λ name there.
      let drawn = All-contains (λ (name : Name). (name.kind ≡ kinds.Page) × (name.no < view.state.next)) (names_beside view) name (sound.drawn told).each
      (Contains-append_left view.retired (names_in (loose_in view.flights)) name there) in
      inl (there, page_stays name drawn.0)))

-- the disk failed in the change, and is left for the history before it, or for that with it
pub failed_left : (config : Fields) (h : History) (view : View) (stands : StandsNow config h view) → view.state.stopped ≡ None → view.state.count < max_place → (disk' : Seen) (faults' : ℕ)
    → (caller : ℕ) (call : Call) → is_work call ≡ false → (b a : ℕ) → IsLeft config disk' h (Some (done_by caller call))
    → StandsNow config (with_failed h caller call b a) (moved view disk' faults' (halted view.state))
failed_left config h view stands runs fits disk' faults' caller call change_is b a left =
    let change : Change = record { caller = caller; call = call; did = Failed b a } in
    let retry : IsLeft config disk' h (Some change) = record { now = left.now; images = left.images } in
    stopped_stands config h change b a (moved view disk' faults' (halted view.state)) stands.stored stands.legal (stands_done config h view stands runs) (subst (λ n. n < max_place) stands.count fits)
    refl (ap (λ n. n + 1) stands.count) (ap (λ n. Some (n + 1)) stands.count) (halted_remembered stands.stored view.state view.levels stands.remembers) stands.config_is
    (stands_for config h view stands runs) (subst (IsLeft config disk' h) (ap (λ t. cond t None (Some change)) (sym change_is)) retry) stands.counted stands.recorded

pub failed_stands : (config : Fields) (h : History) (view : View) (stands : StandsNow config h view) → view.state.stopped ≡ None → view.state.count < max_place → (disk' : Seen) (faults' : ℕ)
    → (caller : ℕ) (call : Call) → is_work call ≡ false → (b a : ℕ) → Image disk' disk'.directory → Goes (IsKeptOr config h (Some (done_by caller call))) view.disk disk'
    → StandsNow config (with_failed h caller call b a) (moved view disk' faults' (halted view.state))
failed_stands config h view stands runs fits disk' faults' caller call change_is b a here goes =
    failed_left config h view stands runs fits disk' faults' caller call change_is b a (left_at_end config h (Some (done_by caller call)) view.disk disk' here goes)
