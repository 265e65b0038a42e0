-- A record that waits behind its closed gate, and the store at rest, as it is without that.
use Rattle.std.proofs.Common.{◌≡◌, ◌⊎◌, ◌<◌, ◌≤◌, inl, inr, ℕ, ◌+◌, List, [], ◌∷◌, ◌++◌, length, take, take_at, Option, Some, None, refl, sym, ap, ◌∙◌, subst, arith}
use Rattle.std.specs.Prelude.{false, slice_index, unwrap_or, ◌-◌}
use Rattle.std.specs.FinMap.{insert}
use Rattle.lethe_base.specs.History.{History}
use Rattle.lethe_base.specs.Limits.{max_place}
use Rattle.lethe_base.specs.declared.call.Call.{Call}
use Rattle.lethe_base.specs.declared.config.Fields.{Fields}
use Rattle.lethe_base.specs.declared.name.Name.{Name}
use Rattle.lethe_base.specs.declared.pending.Pending.{Pending}
use Rattle.lethe_disk.specs.Directory.{Directory, SameBut, content, object}
use Rattle.lethe_disk.specs.Disk.{Image, IsSynced, Seen}
use Rattle.lethe_disk.specs.Goes.{Goes}
use Rattle.lethe_disk.specs.Runs.{Leads, Throughout}
use Rattle.lethe_disk.proofs.Objects.{insert_again, object_beside_insert, object_inserted}
use Rattle.lethe_segment.specs.declared.record.Record.{Record}
use Rattle.lethe_segment.specs.Records.{RecordHasSpelling, record_bytes, record_seq}
use Rattle.lethe_segment.specs.Segments.{segment_bytes}
use Rattle.lethe_commit.specs.Append.{Addition, EndsAt, HasRecords, IsReady, IsUntouched, longer}
use Rattle.lethe_chain.specs.Chains.{IsBehind, IsOpened, IsWaiting, end_of, waiting_bytes}
use Rattle.lethe_chain.proofs.Records.{shut_records, tail_of, waiting-gate}
use Rattle.lethe_cover.specs.Steps.{with_done, with_failed}
use Rattle.lethe_follows.proofs.Behind.{later_appended}
use Rattle.lethe_advance.specs.Settled.{names_in}
use Rattle.lethe_manifest.specs.Manifests.{AreErases}
use Rattle.lethe_manifest.specs.declared.manifest.Manifest.{Manifest}
use Rattle.lethe_stored.specs.Encodes.{Encodes}
use Rattle.lethe_stored.specs.Kept.{IsFor, IsKept}
use Rattle.lethe_stored.specs.Left.{IsKeptOr, is_work}
use Rattle.lethe_stored.specs.Numbers.{GoesFrom}
use Rattle.lethe_stored.specs.Steps.{addition}
use Rattle.lethe_stored.specs.Stored.{IsCoherent, Stored, appended, segment_name}
use Rattle.lethe_stored.proofs.Numbers.{next_of}
use Rattle.lethe_advance.proofs.Stayed.{came_now}
use Rattle.lethe_stored.proofs.Steps.{active_changed}
use Rattle.lethe_stored.proofs.Unique.{one_stored}
use Rattle.lethe_state.specs.Records.{IsLike, IsNext, halted, pending_with}
use Rattle.lethe_state.specs.Waiting.{IsPrepared}
use Rattle.lethe_state.specs.Writable.{IsWritable}
use Rattle.lethe_state.specs.declared.state.State.{State}
use Rattle.lethe_state.specs.declared.waiting.Waiting.{Waiting}
use Rattle.lethe_core.specs.Asked.{done_by}
use Rattle.lethe_core.specs.Changes.{with_record}
use Rattle.lethe_core.specs.Pinned.{AreKept}
use Rattle.lethe_core.specs.Running.{Holds, IsRunning, IsSound}
use Rattle.lethe_core.specs.StandsNow.{StandsNow}
use Rattle.lethe_core.specs.View.{View, loose_in, names_beside}
use Rattle.lethe_core.proofs.Hindered.{drawn_on, flies_on}
use Rattle.lethe_core.proofs.Likes.{like_holds, like_sound, next_small, with_state}
use Rattle.lethe_core.proofs.Recorded.{active_number, beside_segment, coherent_next, failed_left, holds_longer, inserted, moved, pages_beside, ready, record_timely}
use Rattle.lethe_core.proofs.Standing.{encoded_moments, left_at_end, next_drawn, next_stands_now, open_stands, stands_for, stands_holds}
use Rattle.lethe_row.specs.Rests.{IsAtRest, IsCountedIn, IsHeldBack, at_rest, resting}

-- the directory without what lies behind so many bytes of an object
abbrev pub cut : Directory → Name → ℕ → Directory
cut d name len = insert d name (take len (content d name))

-- A store that is looked at as if its disk were at rest

module _ (view : View) (moment faults' : ℕ) where
  abbrev pub rested : View
  rested = record view { disk = resting view.disk.directory moment; faults = faults' }

  rested_running : Image view.disk view.disk.directory → (s : Stored) → IsRunning view s → IsRunning rested s
  rested_running here s running = record {
    settled = record { synced = λ c is. is; coherent = running.settled.coherent; encodes = running.settled.encodes };
    only = running.only;
    uncited = running.uncited;
    untorn = running.untorn;
    copied = running.copied;
    kept = running.kept;
    rising = running.rising;
    ends = record {
      ascends = running.ends.ascends;
      spelled = λ c is. ap (λ d. object d (segment_name s.active.no)) is ∙ running.ends.spelled view.disk.directory here;
      place = running.ends.place;
    };
    current = running.current;
    tasked = running.tasked;
  }

  pub rested_holds : Image view.disk view.disk.directory → (s : Stored) → Holds view s → Holds rested s
  rested_holds here s holds = record { remembers = holds.remembers; running = rested_running here s holds.running }

  pub rested_sound : (Tells : Type 0) → (Tells → Image view.disk view.disk.directory) → IsSound Tells view → IsSound Tells rested
  rested_sound Tells here sound = record {
    writable = sound.writable;
    small = sound.small;
    count = sound.count;
    flights = sound.flights;
    flies = sound.flies;
    loose = sound.loose;
    drawn = sound.drawn;
    pins = sound.pins;
    pages = sound.pages;
    held = λ told. let held = sound.held told in (held.0, held.1, λ runs. rested_running (here told) held.0 (held.2 runs));
  }

  pub rested_stands : Image view.disk view.disk.directory → (config : Fields) (h : History) → StandsNow config h view → view.state.stopped ≡ None → StandsNow config h rested
  rested_stands here config h stands runs = next_stands_now config h view rested stands runs stands.stored refl refl (stands_for config h view stands runs)
      (rested_holds here stands.stored (stands_holds config h view stands runs)) stands.counted stands.recorded (stands.timely runs)

-- What is stored, by the directory alone

pub one_held : (v w : View) (s t : Stored) → w.disk.directory ≡ v.disk.directory → Holds v s → Holds w t → s ≡ t
one_held v w s t same of_s of_t = one_stored v.disk.directory s t of_s.remembers.coherent of_t.remembers.coherent of_s.running.settled.encodes (subst (λ d. Encodes d t) same of_t.running.settled.encodes)

-- a store that takes changes holds something
pub sound_holds : (Tells : Type 0) (view : View) → IsSound Tells view → view.state.stopped ≡ None → Tells → (s : Stored) × Holds view s
sound_holds Tells view sound runs told = let held = sound.held told in (held.0, record { remembers = held.1; running = held.2 runs })

-- the active segment by its name
pub active_named : (view : View) (s : Stored) → Holds view s → (segment : Name) → segment ≡ segment_name (slice_index view.state.manifest.segments (length view.state.manifest.segments - 1)) → segment ≡ segment_name s.active.no
active_named view s holds segment is = is ∙ ap segment_name (active_number s view holds.remembers)

-- with memory that was reserved it is the same
named_like : (old new : State) → IsLike old new → (segment : Name) → segment ≡ segment_name (slice_index new.manifest.segments (length new.manifest.segments - 1))
    → segment ≡ segment_name (slice_index old.manifest.segments (length old.manifest.segments - 1))
named_like old new like segment is = is ∙ ap (λ (m : Manifest). segment_name (slice_index m.segments (length m.segments - 1))) like.manifest

-- A record is written behind the closed gate that ends the active segment. The memory for it was reserved before.

module _ (view : View) (state' : State) (like : IsLike view.state state') (s : Stored) (holds : Holds view s) (next : Record) (spelled : RecordHasSpelling next) (place : record_seq next ≡ view.state.count + 1)
    (segment : Name) (segment_is : segment ≡ segment_name (slice_index state'.manifest.segments (length state'.manifest.segments - 1))) (at : ℕ) (at_is : at ≡ state'.end) where
  prepared_holds : Holds (with_state view state') s
  prepared_holds = like_holds view state' like s holds

  named : segment ≡ segment_name s.active.no
  named = active_named (with_state view state') s prepared_holds segment segment_is

  pub first_ready : (body : List ℕ) → body ≡ record_bytes next → IsReady view.disk segment at body (addition s next)
  first_ready body bytes =
      let number = slice_index state'.manifest.segments (length state'.manifest.segments - 1) in
      subst (λ name. IsReady view.disk name at body (addition s next)) (sym segment_is)
      (subst (λ n. IsReady view.disk (segment_name number) n body (addition s next)) (sym at_is)
      (ready (with_state view state') s prepared_holds next spelled (place ∙ ap (λ n. n + 1) (sym like.count)) number refl body bytes))

  pub first_held : (end : ℕ) (pending : Option (List Pending)) (disk' : Seen) → IsWaiting disk' segment at (addition s next) → disk'.directory ≡ insert view.disk.directory segment (waiting_bytes (addition s next))
      → IsSynced disk' → end ≡ end_of at (addition s next) → IsHeldBack view.disk.directory disk' state'.end (record { «record» = next; end = end; pending = pending }) s
  first_held end pending disk' waits done synced long = record {
    waits = subst (λ n. IsWaiting disk' (segment_name s.active.no) n (addition s next)) at_is (subst (λ name. IsWaiting disk' name at (addition s next)) named waits);
    end_is = subst (λ n. end ≡ end_of n (addition s next)) at_is long;
    directory = done ∙ ap (λ name. insert view.disk.directory name (waiting_bytes (addition s next))) named;
    synced = synced;
  }

  module _ (n : ℕ) (new : Seen) (run : Leads (IsOpened segment at n (addition s next)) view.disk new) where
    pub first_beside : Image new new.directory → SameBut (segment_name s.active.no) view.disk.directory new.directory
    first_beside here = subst (λ name. SameBut name view.disk.directory new.directory) named (came_now (IsOpened segment at n (addition s next)) view.disk new holds.running.settled.synced run here).written.others

    pub first_moments : Throughout (HasRecords segment s.active.no s.active.records) view.disk new → Goes (λ c. Encodes c s) view.disk new
    first_moments unopened = record {
      later = run.later;
      past = run.past;
      each = λ m c low high left.
          let from = run.each m c low high left in
          let same : SameBut segment view.disk.directory c = λ other apart. from.2.written.others other apart ∙ ap (λ d. object d other) (holds.running.settled.synced from.0 from.1) in
          active_changed s view.disk.directory c s.active.records holds.remembers.coherent holds.running.settled.encodes
          (subst (λ name. SameBut name view.disk.directory c) named same) (subst (λ name. HasRecords name s.active.no s.active.records c) named (unopened m c low high left));
    }

-- so it is of each store that takes changes
module _ (Tells : Type 0) (view : View) (sound : IsSound Tells view) (runs : view.state.stopped ≡ None) (told : Tells) (state' : State) (like : IsLike view.state state') (next : Record) (spelled : RecordHasSpelling next)
    (place : record_seq next ≡ view.state.count + 1) (segment : Name) (segment_is : segment ≡ segment_name (slice_index state'.manifest.segments (length state'.manifest.segments - 1))) (at : ℕ) (at_is : at ≡ state'.end)
    (body : List ℕ) (bytes : body ≡ record_bytes next) where
  pub ready_to_hold : (a : Addition) × IsReady view.disk segment at body a
  ready_to_hold =
      let there = sound_holds Tells view sound runs told in
      (addition there.0 next, first_ready view state' like there.0 there.1 next spelled place segment segment_is at at_is body bytes)

  module _ (n : ℕ) (new : Seen) (led : (a : Addition) → IsReady view.disk segment at body a → Leads (IsOpened segment at n a) view.disk new) where
    pub hold_later : view.disk.moment ≤ new.moment
    hold_later = (led ready_to_hold.0 ready_to_hold.1).later

    pub hold_kept : Image new new.directory → AreKept view.pins.pins view.disk.directory new.directory
    hold_kept here =
        let there = sound_holds Tells view sound runs told in
        let is_ready = first_ready view state' like there.0 there.1 next spelled place segment segment_is at at_is body bytes in
        beside_segment Tells view sound new.directory there.0.active.no
        (first_beside view state' like there.0 there.1 next spelled place segment segment_is at at_is n new (led (addition there.0 next) is_ready) here)

    pub hold_moments : ((a : Addition) → IsReady view.disk segment at body a → Throughout (HasRecords segment a.number a.records) view.disk new)
        → (config : Fields) (h : History) → StandsNow config h view → GoesFrom view.state.next (λ c. IsKept config c h) view.disk new
    hold_moments unopened config h stands =
        let s = stands.stored in
        let holds = stands_holds config h view stands runs in
        let is_ready = first_ready view state' like s holds next spelled place segment segment_is at at_is body bytes in
        encoded_moments config h view stands runs sound.writable new
        (first_moments view state' like s holds next spelled place segment segment_is at at_is n new (led (addition s next) is_ready) (unopened (addition s next) is_ready))

-- A store at rest, where memory was reserved, or where nothing was done on its disk

module _ (Tells : Type 0) (view : View) (d : Directory) (waiting : Waiting) (is : IsAtRest Tells view d waiting) where
  pub rest_like : (state' : State) → IsLike view.state state' → IsWritable state' → IsPrepared state' waiting → IsAtRest Tells (with_state view state') d waiting
  rest_like state' like writable prepared =
      let count = like.count in
      let fits = is.fits in
      let records = like.records in
      let buffer : state'.manifest.config.buffer ≡ view.state.manifest.config.buffer = ap (λ (m : Manifest). m.config.buffer) like.manifest in
      let room = is.room in
      record {
        sound = like_sound (at_rest view d) state' like Tells writable is.sound;
        runs = like.stopped ∙ is.runs;
        fits = omega (arith, count, fits);
        room = omega (arith, records, buffer, room);
        prepared = prepared;
        place = is.place ∙ ap (λ n. n + 1) (sym like.count);
        held_back = λ told s holds.
            let there = sound_holds Tells (at_rest view d) is.sound is.runs told in
            let same = one_held (at_rest view d) (at_rest (with_state view state') d) there.0 s refl there.1 holds in
            subst (λ n. IsHeldBack d view.disk n waiting s) (sym like.end_is) (subst (IsHeldBack d view.disk view.state.end waiting) same (is.held_back told there.0 there.1));
      }

  pub rest_still : (disk' : Seen) (faults' : ℕ) → (Tells → IsUntouched view.disk disk') → IsAtRest Tells (moved view disk' faults' view.state) d waiting
  rest_still disk' faults' still = record {
    sound = rested_sound (at_rest view d) disk'.moment faults' Tells (λ told. refl) is.sound;
    runs = is.runs;
    fits = is.fits;
    room = is.room;
    prepared = is.prepared;
    place = is.place;
    held_back = λ told s holds.
        let there = sound_holds Tells (at_rest view d) is.sound is.runs told in
        let same = one_held (at_rest view d) (at_rest (moved view disk' faults' view.state) d) there.0 s refl there.1 holds in
        let held = subst (IsHeldBack d view.disk view.state.end waiting) same (is.held_back told there.0 there.1) in
        let none = still told in
        record {
          waits = record {
            ascends = held.waits.ascends;
            spelled = held.waits.spelled;
            above = held.waits.above;
            waiting = λ c here. held.waits.waiting c ((none.images c).0 here);
            place = held.waits.place;
          };
          end_is = held.end_is;
          directory = none.directory ∙ held.directory;
          synced = λ c here. held.synced c ((none.images c).0 here) ∙ sym none.directory;
        };
  }

-- What a crash leaves while a record is held back

module _ (rest : View) (s : Stored) (holds : Holds rest s) (next : Record) (spelled : RecordHasSpelling next) (place : record_seq next ≡ rest.state.count + 1) where
  abbrev segment : Name
  segment = segment_name s.active.no

  coherent : IsCoherent s
  coherent = holds.remembers.coherent

  coherent_with : IsCoherent (appended s next)
  coherent_with = coherent_next rest s holds next spelled place s.active.no (sym (active_number s rest holds.remembers))

  encoded : (c : Directory) → SameBut segment rest.disk.directory c → HasRecords segment s.active.no s.active.records c → Encodes c s
  encoded c same has = active_changed s rest.disk.directory c s.active.records coherent holds.running.settled.encodes same has

  encoded_with : (c : Directory) → SameBut segment rest.disk.directory c → HasRecords segment s.active.no (longer (addition s next)) c → Encodes c (appended s next)
  encoded_with c same has = active_changed s rest.disk.directory c (s.active.records ++ next ∷ []) coherent holds.running.settled.encodes same has

  -- at each moment of a run it is what is stored, or that with the record
  module _ (config : Fields) (same : s.manifest.config ≡ config) (h : History) (caller : ℕ) (call : Call) (for : IsFor h s) (with : IsFor (with_done h caller call) (appended s next)) (writable : IsWritable rest.state) where
    kept_either : (c : Directory) → Encodes c s ⊎ Encodes c (appended s next) → IsKeptOr config h (Some (done_by caller call)) c
    kept_either c (inl old) = (h, inl refl, inr (record { s = s; config_is = same; coherent = coherent; encodes = old; stands = for }))
    kept_either c (inr new) = (with_done h caller call, inr refl, inr (record { s = appended s next; config_is = same; coherent = coherent_with; encodes = new; stands = with }))

    moments_either : (old new : Seen) → Goes (λ c. Encodes c s ⊎ Encodes c (appended s next)) old new → GoesFrom rest.state.next (IsKeptOr config h (Some (done_by caller call))) old new
    moments_either old new goes = record {
      goes = record { later = goes.later; past = goes.past; each = λ m c low high left. kept_either c (goes.each m c low high left) };
      pace = λ m c low high left most is.
          let below = next_drawn rest s writable holds.remembers in
          elim (goes.each m c low high left) [
            | inl was ↦ let same = next_of c s most coherent was is in omega (arith, same, below, low)
            | inr now ↦ let same = next_of c (appended s next) most coherent_with now is in omega (arith, same, below, low)
          ];
    }

  -- where the record is held back
  module _ (disk : Seen) (waits : IsWaiting disk segment rest.state.end (addition s next)) (directory : disk.directory ≡ insert rest.disk.directory segment (waiting_bytes (addition s next))) (synced : IsSynced disk) where
    beside_held : SameBut segment rest.disk.directory disk.directory
    beside_held other apart = ap (λ d. object d other) directory ∙ object_beside_insert rest.disk.directory segment (waiting_bytes (addition s next)) other apart

    came : (n : ℕ) (new : Seen) → Leads (IsOpened segment rest.state.end n (addition s next)) disk new → Goes (λ c. Encodes c s ⊎ Encodes c (appended s next)) disk new
    came n new run = record {
      later = run.later;
      past = run.past;
      each = λ m c low high left.
          let from = run.each m c low high left in
          let was : from.0 ≡ disk.directory = synced from.0 from.1 in
          let same : SameBut segment rest.disk.directory c = λ other apart. from.2.written.others other apart ∙ ap (λ d. object d other) was ∙ beside_held other apart in
          elim from.2.either [
            | inl old ↦ inl (encoded c same old)
            | inr more ↦ inr (encoded_with c same more)
          ];
    }

    -- and nothing is done
    still : Image disk disk.directory → Goes (λ c. Encodes c s) disk disk
    still here = record {
      later = omega arith;
      past = λ m c low. ((λ x. x), (λ x. x));
      each = λ m c low high left.
          let is : m ≡ disk.moment = omega (arith, low, high) in
          let there : object c segment ≡ Some (waiting_bytes (addition s next)) = waits.waiting c (subst (λ k. disk.left k c) is left) in
          let was : c ≡ disk.directory = synced c (subst (λ k. disk.left k c) is left) in
          encoded c (subst (SameBut segment rest.disk.directory) (sym was) beside_held)
          (shut_records segment (addition s next) c 0 (tail_of (addition s next)) (λ e. omega (arith, e)) (there ∙ ap Some (waiting-gate (addition s next))));
    }

  -- The record is entered, and stands in the segment of a disk that a read gives

  module _ (disk' : Seen) (faults' : ℕ) (state' : State) (end : ℕ) (done : disk'.directory ≡ insert rest.disk.directory segment (segment_bytes s.active.no (longer (addition s next)))) where
    holds_with : IsSynced disk' → EndsAt disk' segment s.active.no (longer (addition s next)) end → IsNext next end rest.state state' → AreErases (pending_with rest.state.pending next)
        → Holds (moved rest disk' faults' state') (appended s next)
    holds_with synced ends is erases = holds_longer rest s holds next spelled place s.active.no (sym (active_number s rest holds.remembers)) disk' faults' state' done end synced ends is erases

    directory_with : disk'.directory ≡ with_record rest.disk.directory s next
    directory_with = inserted rest s holds next spelled place s.active.no (sym (active_number s rest holds.remembers)) disk' faults' state' done

-- The record that waits, where the segment and its gate are at hand

module _ (Tells : Type 0) (view : View) (d : Directory) (waiting : Waiting) (is : IsAtRest Tells view d waiting) (told : Tells) where
  -- nothing is done
  pub moments_still : Image view.disk view.disk.directory → (config : Fields) (h : History) (caller : ℕ) (call : Call) (stands : StandsNow config h (at_rest view d))
      → IsFor (with_done h caller call) (appended stands.stored waiting.record) → GoesFrom view.state.next (IsKeptOr config h (Some (done_by caller call))) view.disk view.disk
  moments_still here config h caller call stands with =
      let s = stands.stored in
      let holds = stands_holds config h (at_rest view d) stands is.runs in
      let held = is.held_back told s holds in
      let goes = still (at_rest view d) s holds waiting.record is.prepared.spelled is.place view.disk held.waits held.directory held.synced here in
      moments_either (at_rest view d) s holds waiting.record is.prepared.spelled is.place config stands.config_is h caller call (stands_for config h (at_rest view d) stands is.runs) with is.sound.writable view.disk view.disk
      (record { later = goes.later; past = goes.past; each = λ m c low high left. inl (goes.each m c low high left) })

  -- the disk fails
  pub failed_there : (config : Fields) (h : History) (caller : ℕ) (call : Call) → is_work call ≡ false → StandsNow config h (at_rest view d) → (disk' : Seen) (faults' b a : ℕ) → Image disk' disk'.directory
      → GoesFrom view.state.next (IsKeptOr config h (Some (done_by caller call))) view.disk disk' → StandsNow config (with_failed h caller call b a) (moved view disk' faults' (halted view.state))
  failed_there config h caller call change stands disk' faults' b a here goes =
      failed_left config h (at_rest view d) stands is.runs is.fits disk' faults' caller call change b a (left_at_end config h (Some (done_by caller call)) view.disk disk' here goes.goes)

  module _ (state' : State) (like : IsLike view.state state') (segment : Name) (segment_is : segment ≡ segment_name (slice_index state'.manifest.segments (length state'.manifest.segments - 1)))
      (at : ℕ) (at_is : at ≡ state'.end) where
    module _ (s : Stored) (holds : Holds (at_rest view d) s) where
      name_there : segment ≡ segment_name s.active.no
      name_there = active_named (at_rest view d) s holds segment (named_like view.state state' like segment segment_is)

      gate_there : at ≡ view.state.end
      gate_there = at_is ∙ like.end_is

      pub waits_there : IsWaiting view.disk segment at (addition s waiting.record)
      waits_there = subst (λ n. IsWaiting view.disk segment n (addition s waiting.record)) (sym gate_there)
          (subst (λ name. IsWaiting view.disk name view.state.end (addition s waiting.record)) (sym name_there) (is.held_back told s holds).waits)

      pub ends_there : waiting.end ≡ end_of at (addition s waiting.record)
      ends_there = subst (λ n. waiting.end ≡ end_of n (addition s waiting.record)) (sym gate_there) (is.held_back told s holds).end_is

      pub behind_there : (next : Record) (body : List ℕ) → RecordHasSpelling next → record_seq next ≡ view.state.count + 2 → body ≡ record_bytes next → IsBehind (addition s waiting.record) body (addition (appended s waiting.record) next)
      behind_there next body spelled place bytes =
          let first = is.place in
          record { number = refl; records = refl; spelled = spelled; above = omega (arith, first, place); bytes = bytes }

      -- the record counts, and none waits
      pub opened_there : (disk' : Seen) → disk'.directory ≡ insert view.disk.directory segment (segment_bytes s.active.no (longer (addition s waiting.record))) → IsSynced disk'
          → EndsAt disk' segment s.active.no (longer (addition s waiting.record)) (end_of at (addition s waiting.record))
          → (disk'.directory ≡ insert d (segment_name s.active.no) (segment_bytes s.active.no (longer (addition s waiting.record)))) × IsSynced disk'
          × EndsAt disk' (segment_name s.active.no) s.active.no (longer (addition s waiting.record)) waiting.end
      opened_there disk' done synced ends = (
        done ∙ ap (λ name. insert view.disk.directory name (segment_bytes s.active.no (longer (addition s waiting.record)))) name_there
            ∙ ap (λ x. insert x (segment_name s.active.no) (segment_bytes s.active.no (longer (addition s waiting.record)))) (is.held_back told s holds).directory
            ∙ insert_again d (segment_name s.active.no) (waiting_bytes (addition s waiting.record)) (segment_bytes s.active.no (longer (addition s waiting.record))),
        synced,
        subst (λ n. EndsAt disk' (segment_name s.active.no) s.active.no (longer (addition s waiting.record)) n) (sym ends_there)
            (subst (λ name. EndsAt disk' name s.active.no (longer (addition s waiting.record)) (end_of at (addition s waiting.record))) name_there ends),
      )

    -- a run that opens its gate
    module _ (n : Addition → ℕ) (new : Seen) (led : (a : Addition) → IsWaiting view.disk segment at a → waiting.end ≡ end_of at a → Leads (IsOpened segment at (n a) a) view.disk new) where
      pub later_there : view.disk.moment ≤ new.moment
      later_there =
          let there = sound_holds Tells (at_rest view d) is.sound is.runs told in
          (led (addition there.0 waiting.record) (waits_there there.0 there.1) (ends_there there.0 there.1)).later

      -- what pins name stays
      pub kept_there : Image new new.directory → AreKept view.pins.pins view.disk.directory new.directory
      kept_there here =
          let there = sound_holds Tells (at_rest view d) is.sound is.runs told in
          let a = addition there.0 waiting.record in
          pages_beside view.pins.pins is.sound.pages view.disk.directory new.directory there.0.active.no
          (subst (λ name. SameBut name view.disk.directory new.directory) (name_there there.0 there.1)
          (came_now (IsOpened segment at (n a) a) view.disk new (is.held_back told there.0 there.1).synced (led a (waits_there there.0 there.1) (ends_there there.0 there.1)) here).written.others)

      pub moments_there : (config : Fields) (h : History) (caller : ℕ) (call : Call) (stands : StandsNow config h (at_rest view d)) → IsFor (with_done h caller call) (appended stands.stored waiting.record)
          → GoesFrom view.state.next (IsKeptOr config h (Some (done_by caller call))) view.disk new
      moments_there config h caller call stands with =
          let s = stands.stored in
          let holds = stands_holds config h (at_rest view d) stands is.runs in
          let held = is.held_back told s holds in
          let a = addition s waiting.record in
          let run = subst (λ k. Leads (IsOpened (segment_name s.active.no) k (n a) a) view.disk new) (gate_there s holds)
          (subst (λ name. Leads (IsOpened name at (n a) a) view.disk new) (name_there s holds) (led a (waits_there s holds) (ends_there s holds))) in
          moments_either (at_rest view d) s holds waiting.record is.prepared.spelled is.place config stands.config_is h caller call (stands_for config h (at_rest view d) stands is.runs) with is.sound.writable view.disk new
          (came (at_rest view d) s holds waiting.record is.prepared.spelled is.place view.disk held.waits held.directory held.synced (n a) new run)

-- With the record the store stands for the history with its change

module _ (rest : View) (config : Fields) (h : History) (stands : StandsNow config h rest) (runs : rest.state.stopped ≡ None) (next : Record) (spelled : RecordHasSpelling next) (place : record_seq next ≡ rest.state.count + 1)
    (disk' : Seen) (faults' : ℕ) (state' : State) (end : ℕ) where
  stands_with : disk'.directory ≡ with_record rest.disk.directory stands.stored next → (Tells : Type 0) → IsSound Tells rest → Tells → (caller : ℕ) (call : Call)
      → IsFor (with_done h caller call) (appended stands.stored next) → Holds (moved rest disk' faults' state') (appended stands.stored next) → StandsNow config (with_done h caller call) (moved rest disk' faults' state')
  stands_with there Tells sound told caller call with now =
      let for = stands_for config h rest stands runs in
      open_stands config (with_done h caller call) (moved rest disk' faults' state') (appended stands.stored next)
      with.legal with.done (now.running.current.count ∙ with.count) stands.config_is with now stands.counted
      (later_appended h stands.stored for stands.recorded next (let count = stands.count in omega (arith, place, count)))
      (record_timely rest stands.stored next disk'.directory there Tells sound told config.threshold h caller call for with (stands.timely runs))

-- The record counts

module _ (Tells : Type 0) (rest : View) (waiting : Waiting) (sound : IsSound Tells rest) (runs : rest.state.stopped ≡ None) (room : rest.state.records < rest.state.manifest.config.buffer)
    (place : record_seq waiting.record ≡ rest.state.count + 1) (prepared : IsPrepared rest.state waiting) (disk' : Seen) (faults' : ℕ) (state' : State) (is : IsNext waiting.record waiting.end rest.state state') where
  -- what is stored is that with the record, whatever is stored at rest
  abbrev pub HasRecord : Type 0
  HasRecord = Tells → (s : Stored) → Holds rest s → (disk'.directory ≡ insert rest.disk.directory (segment_name s.active.no) (segment_bytes s.active.no (longer (addition s waiting.record)))) × IsSynced disk'
      × EndsAt disk' (segment_name s.active.no) s.active.no (longer (addition s waiting.record)) waiting.end

  abbrev then : View
  then = moved rest disk' faults' state'

  module _ (has : HasRecord) where
    pub counted_holds : Tells → (s : Stored) → Holds rest s → Holds then (appended s waiting.record)
    counted_holds told s holds =
        let there = has told s holds in
        holds_with rest s holds waiting.record prepared.spelled place disk' faults' state' waiting.end there.0 there.1 there.2 is prepared.erases

    pub counted_in : IsCountedIn Tells waiting rest then
    counted_in = record {
      state = is;
      beside = record { levels = refl; retired = refl; flights = refl; begun = refl; rounds = refl; pins = refl };
      holds = counted_holds;
      directory = λ told s holds. directory_with rest s holds waiting.record prepared.spelled place disk' faults' state' waiting.end (has told s holds).0;
      stands = λ told config h caller call change stands with.
          let holds = stands_holds config h rest stands runs in
          stands_with rest config h stands runs waiting.record prepared.spelled place disk' faults' state' waiting.end
          (directory_with rest stands.stored holds waiting.record prepared.spelled place disk' faults' state' waiting.end (has told stands.stored holds).0) Tells sound told caller call with (counted_holds told stands.stored holds);
    }

    pub counted_sound : IsWritable state' → IsSound Tells then
    counted_sound writable =
        let drawn = is.drawn in
        record {
          writable = writable;
          small = next_small waiting.record waiting.end rest.state state' is room sound.small;
          count = sound.count ∙ ap (λ (m : Manifest). m.config.levels + 1) (sym is.manifest);
          flights = sound.flights;
          flies = flies_on rest.state state' (ap (λ (m : Manifest). m.config.levels) is.manifest) rest.flights sound.flies;
          loose = drawn_on rest.state.next state'.next (names_in (loose_in rest.flights)) (omega (arith, drawn)) sound.loose;
          drawn = λ told. drawn_on rest.state.next state'.next (names_beside rest) (omega (arith, drawn)) (sound.drawn told);
          pins = sound.pins;
          pages = sound.pages;
          held = λ told.
              let held = sound.held told in
              let now = counted_holds told held.0 (record { remembers = held.1; running = held.2 runs }) in
              (appended held.0 waiting.record, now.remembers, λ runs. now.running);
        }

-- The record that waited counts, and the next one waits

-- what lies behind the front of an object is cut off
cut_back : (c d : Directory) (name : Name) (front back : List ℕ) (len : ℕ) → c ≡ insert d name (front ++ back) → length front ≡ len → cut c name len ≡ insert d name front
cut_back c d name front back len is long =
    ap (λ x. cut x name len) is
    ∙ ap (λ o. insert (insert d name (front ++ back)) name (take len (unwrap_or o []))) (object_inserted d name (front ++ back))
    ∙ ap (λ bytes. insert (insert d name (front ++ back)) name bytes) (take_at front back len long)
    ∙ insert_again d name (front ++ back) front

module _ (Tells : Type 0) (view : View) (d : Directory) (waiting : Waiting) (is : IsAtRest Tells view d waiting) (prepared' : State) (like : IsLike view.state prepared') (segment : Name)
    (segment_is : segment ≡ segment_name (slice_index prepared'.manifest.segments (length prepared'.manifest.segments - 1)))
    (disk' : Seen) (faults' : ℕ) (state' : State) (entered : IsNext waiting.record waiting.end view.state state') (next : Waiting)
    (went : Tells → (s : Stored) → Holds (at_rest view d) s → (disk'.directory ≡ insert view.disk.directory segment (waiting_bytes (addition (appended s waiting.record) next.record))) × IsSynced disk'
    × IsWaiting disk' segment waiting.end (addition (appended s waiting.record) next.record)) where
  abbrev pub passed : Directory
  passed = cut disk'.directory segment (waiting.end + 1)

  module _ (told : Tells) (s : Stored) (holds : Holds (at_rest view d) s) where
    whole : disk'.directory ≡ insert d (segment_name s.active.no) (waiting_bytes (addition (appended s waiting.record) next.record))
    whole = (went told s holds).0
        ∙ ap (λ name. insert view.disk.directory name (waiting_bytes (addition (appended s waiting.record) next.record))) (active_named (at_rest view d) s holds segment (named_like view.state prepared' like segment segment_is))
        ∙ ap (λ x. insert x (segment_name s.active.no) (waiting_bytes (addition (appended s waiting.record) next.record))) (is.held_back told s holds).directory
        ∙ insert_again d (segment_name s.active.no) (waiting_bytes (addition s waiting.record)) (waiting_bytes (addition (appended s waiting.record) next.record))

    front : passed ≡ insert d (segment_name s.active.no) (segment_bytes s.active.no (longer (addition s waiting.record)))
    front = ap (λ name. cut disk'.directory name (waiting.end + 1)) (active_named (at_rest view d) s holds segment (named_like view.state prepared' like segment segment_is))
        ∙ cut_back disk'.directory d (segment_name s.active.no) (segment_bytes s.active.no (longer (addition s waiting.record))) (record_bytes next.record ++ 0 ∷ []) (waiting.end + 1) whole
        (sym (went told s holds).2.place)

    passed_ends : EndsAt (resting passed disk'.moment) (segment_name s.active.no) s.active.no (longer (addition s waiting.record)) waiting.end
    passed_ends = record {
      ascends = (went told s holds).2.ascends;
      spelled = λ c same. ap (λ x. object x (segment_name s.active.no)) (same ∙ front) ∙ object_inserted d (segment_name s.active.no) (segment_bytes s.active.no (longer (addition s waiting.record)));
      place = (went told s holds).2.place;
    }

  passed_has : HasRecord Tells (at_rest view d) waiting is.sound is.runs is.room is.place is.prepared (resting passed disk'.moment) faults' state' entered
  passed_has told s holds = (front told s holds, λ c same. same, passed_ends told s holds)

  pub passed_counted : IsCountedIn Tells waiting (at_rest view d) (at_rest (moved view disk' faults' state') passed)
  passed_counted = counted_in Tells (at_rest view d) waiting is.sound is.runs is.room is.place is.prepared (resting passed disk'.moment) faults' state' entered passed_has

  pub passed_rest : IsWritable state' → view.state.count + 1 < max_place → view.state.records + 1 < view.state.manifest.config.buffer → record_seq next.record ≡ view.state.count + 2 → IsPrepared state' next
      → next.end ≡ waiting.end + 1 + length (record_bytes next.record) → IsAtRest Tells (moved view disk' faults' state') passed next
  passed_rest writable fits room place prepared end =
      let count = entered.count in
      let records = entered.records in
      let buffer : state'.manifest.config.buffer ≡ view.state.manifest.config.buffer = ap (λ (m : Manifest). m.config.buffer) entered.manifest in
      record {
        sound = counted_sound Tells (at_rest view d) waiting is.sound is.runs is.room is.place is.prepared (resting passed disk'.moment) faults' state' entered passed_has writable;
        runs = entered.stopped ∙ is.runs;
        fits = omega (arith, count, fits);
        room = omega (arith, records, buffer, room);
        prepared = prepared;
        place = omega (arith, count, place);
        held_back = λ told t holds.
            let there = sound_holds Tells (at_rest view d) is.sound is.runs told in
            let s = there.0 in
            let with = counted_holds Tells (at_rest view d) waiting is.sound is.runs is.room is.place is.prepared (resting passed disk'.moment) faults' state' entered passed_has told s there.1 in
            let then = at_rest (moved view disk' faults' state') passed in
            let gone = went told s there.1 in
            let name = active_named (at_rest view d) s there.1 segment (named_like view.state prepared' like segment segment_is) in
            subst (IsHeldBack passed disk' state'.end next) (one_held then then (appended s waiting.record) t refl with holds) (record {
              waits = subst (λ n. IsWaiting disk' (segment_name s.active.no) n (addition (appended s waiting.record) next.record)) (sym entered.end_is)
                  (subst (λ name. IsWaiting disk' name waiting.end (addition (appended s waiting.record) next.record)) name gone.2);
              end_is = subst (λ n. next.end ≡ end_of n (addition (appended s waiting.record) next.record)) (sym entered.end_is) end;
              directory = whole told s there.1 ∙ sym (ap (λ x. insert x (segment_name s.active.no) (waiting_bytes (addition (appended s waiting.record) next.record))) (front told s there.1)
                  ∙ insert_again d (segment_name s.active.no) (segment_bytes s.active.no (longer (addition s waiting.record))) (waiting_bytes (addition (appended s waiting.record) next.record)));
              synced = gone.1;
            });
      }
