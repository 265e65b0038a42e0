-- What stands where the disk is in the store's hands.
use Rattle.std.proofs.Common.{◌≡◌, ◌<◌, ◌≤◌, inl, inr, ℕ, ◌+◌, [], ◌∷◌, ◌++◌, length, Option, Some, None, refl, sym, ◌∙◌, subst, arith}
use Rattle.std.specs.Prelude.{All}
use Rattle.std.proofs.lemmas.List.{length_push}
use Rattle.lethe_base.specs.History.{History, Change, AreDone, IsLegal}
use Rattle.lethe_base.specs.Limits.{max_place}
use Rattle.lethe_base.specs.declared.call.Did.TheVariants.{Failed}
use Rattle.lethe_base.specs.declared.config.Fields.{Fields}
use Rattle.lethe_disk.specs.Directory.{Directory}
use Rattle.lethe_disk.specs.Disk.{Seen, Image, IsIdle}
use Rattle.lethe_disk.specs.Goes.{Goes}
use Rattle.lethe_disk.proofs.Going.{goes_quiet}
use Rattle.lethe_disk.proofs.Quieting.{quiet_itself}
use Rattle.lethe_commit.specs.Switch.{IsTakenBack}
use Rattle.lethe_follows.specs.Young.{AreLaterRecorded}
use Rattle.lethe_manifest.specs.declared.manifest.Manifest.{Manifest}
use Rattle.lethe_stored.specs.Encodes.{Encodes}
use Rattle.lethe_stored.specs.Kept.{IsFor, IsKept}
use Rattle.lethe_stored.specs.Left.{IsLeft, IsKeptOr, IsHistoryOr}
use Rattle.lethe_stored.specs.Numbers.{GoesFrom}
use Rattle.lethe_stored.specs.Stored.{Stored}
use Rattle.lethe_stored.proofs.Numbers.{goes_from_encoded, goes_from_weaker}
use Rattle.lethe_advance.specs.Settled.{AreUncited, HasOnly}
use Rattle.lethe_advance.specs.Untorn.{IsUntorn}
use Rattle.lethe_advance.proofs.Standing.{settled_back}
use Rattle.lethe_state.specs.Remembered.{Remembers}
use Rattle.lethe_state.specs.Writable.{IsWritable}
use Rattle.lethe_state.specs.declared.state.State.{State}
use Rattle.lethe_core.specs.Pinned.{AreTimely}
use Rattle.lethe_core.specs.Running.{Holds, IsRunning, IsSound}
use Rattle.lethe_core.specs.StandsNow.{IsCounted, IsOpenOrStopped, StandsNow, retried}
use Rattle.lethe_core.specs.Steps.{IsBeside}
use Rattle.lethe_core.specs.View.{View, beside_at}
use Rattle.lethe_core.proofs.Histories.{all_done, last_failed, legal_failed}

-- A history is one of those that it may become

pub itself_or : (h : History) (change : Option Change) → IsHistoryOr h change h
itself_or h None = refl
itself_or h (Some change) = inl refl

pub kept_or : (config : Fields) (h : History) (change : Option Change) (d : Directory) → IsKept config d h → IsKeptOr config h change d
kept_or config h change d kept = (h, itself_or h change, kept)

pub moments_or : (config : Fields) (h : History) (change : Option Change) (first : ℕ) (old new : Seen) → GoesFrom first (λ c. IsKept config c h) old new → GoesFrom first (IsKeptOr config h change) old new
moments_or config h change first old new goes = goes_from_weaker (λ c. IsKept config c h) (IsKeptOr config h change) first old new (kept_or config h change) goes

-- what is kept at each moment of a run is kept at its end
pub left_at_end : (config : Fields) (h : History) (change : Option Change) (old new : Seen) → Image new new.directory → Goes (IsKeptOr config h change) old new → IsLeft config new h change
left_at_end config h change old new here goes =
    let each : (c : Directory) → Image new c → IsKeptOr config h change c = λ c at. goes.each new.moment c goes.later (omega arith) at in
    record { now = each new.directory here; images = each }

-- where nothing is done, what a crash leaves stays
pub left_moments : (config : Fields) (h : History) (change : Option Change) (disk : Seen) → IsLeft config disk h change → Goes (IsKeptOr config h change) disk disk
left_moments config h change disk left = goes_quiet (IsKeptOr config h change) disk disk (quiet_itself disk) left.images

-- A store that takes changes

pub running_encoded : (view : View) (s : Stored) → IsRunning view s → Goes (λ c. Encodes c s) view.disk view.disk
running_encoded view s running = goes_quiet (λ c. Encodes c s) view.disk view.disk (quiet_itself view.disk)
    (λ c here. subst (λ d. Encodes d s) (sym (running.settled.synced c here)) running.settled.encodes)

-- the next number of what it remembers was drawn
pub next_drawn : (view : View) (s : Stored) → IsWritable view.state → Remembers s view.state view.levels → s.manifest.next ≤ view.state.next
next_drawn view s writable remembers = subst (λ (m : Manifest). m.next ≤ view.state.next) remembers.manifest writable.drawn

module _ (config : Fields) (h : History) (view : View) (stands : StandsNow config h view) (runs : view.state.stopped ≡ None) where
  held_open : AreDone h × IsRunning view stands.stored
  held_open = subst (IsOpenOrStopped config view h stands.stored) runs stands.held

  pub stands_done : AreDone h
  stands_done = held_open.0

  pub stands_holds : Holds view stands.stored
  stands_holds = record { remembers = stands.remembers; running = held_open.1 }

  pub stands_for : IsFor h stands.stored
  stands_for = subst (λ g. IsFor g stands.stored) (all_done h stands_done) stands.stands

  -- where a crash leaves what is stored, it leaves what is kept
  pub kept_by : (c : Directory) → Encodes c stands.stored → IsKept config c h
  kept_by c is = inr (record { s = stands.stored; config_is = stands.config_is; coherent = stands.remembers.coherent; encodes = is; stands = stands_for })

  pub encoded_moments : IsWritable view.state → (disk : Seen) → Goes (λ c. Encodes c stands.stored) view.disk disk → GoesFrom view.state.next (λ c. IsKept config c h) view.disk disk
  encoded_moments writable disk goes =
      goes_from_encoded (λ c. IsKept config c h) stands.stored view.state.next view.disk disk stands.remembers.coherent (next_drawn view stands.stored writable stands.remembers) goes kept_by

  pub stands_moments : IsWritable view.state → GoesFrom view.state.next (λ c. IsKept config c h) view.disk view.disk
  stands_moments writable = encoded_moments writable view.disk (running_encoded view stands.stored held_open.1)

-- what a store that takes changes stands for
pub open_stands : (config : Fields) (h : History) (view : View) (s : Stored) → IsLegal h → AreDone h → view.state.count ≡ length h → s.manifest.config ≡ config → IsFor h s → Holds view s
    → All (λ flying. IsCounted flying.task) view.flights → AreLaterRecorded s → AreTimely config.threshold h view.pins.pins view.retired view.disk.directory → StandsNow config h view
open_stands config h view s legal done count config_is stands holds counted recorded timely = record {
  legal = legal;
  count = count;
  stored = s;
  remembers = holds.remembers;
  config_is = config_is;
  stands = subst (λ g. IsFor g s) (sym (all_done h done)) stands;
  held = subst (IsOpenOrStopped config view h s) (sym holds.running.current.runs) (done, holds.running);
  counted = counted;
  recorded = recorded;
  timely = λ runs. timely;
}

-- it stands for the same history where what is stored next does
pub next_stands_now : (config : Fields) (h : History) (old new : View) (stands : StandsNow config h old) → old.state.stopped ≡ None → (t : Stored) → new.state.count ≡ old.state.count
    → t.manifest.config ≡ stands.stored.manifest.config → IsFor h t → Holds new t → All (λ flying. IsCounted flying.task) new.flights → AreLaterRecorded t
    → AreTimely config.threshold h new.pins.pins new.retired new.disk.directory → StandsNow config h new
next_stands_now config h old new stands runs t count same for holds counted recorded timely =
    open_stands config h new t stands.legal (stands_done config h old stands runs) (count ∙ stands.count) (same ∙ stands.config_is) for holds counted recorded timely

-- and one in which the disk failed in one more change
pub stopped_stands : (config : Fields) (h : History) (change : Change) (before behind : ℕ) (view : View) (s : Stored) → IsLegal h → AreDone h → length h < max_place → change.did ≡ Failed before behind
    → view.state.count ≡ length h + 1 → view.state.stopped ≡ Some (length h + 1) → Remembers s view.state view.levels → s.manifest.config ≡ config → IsFor h s → IsLeft config view.disk h (retried change)
    → All (λ flying. IsCounted flying.task) view.flights → AreLaterRecorded s → StandsNow config (h ++ change ∷ []) view
stopped_stands config h change before behind view s legal done few failed count stopped remembers config_is stands left counted recorded = record {
  legal = legal_failed h change before behind legal done few failed;
  count = count ∙ sym (length_push h change);
  stored = s;
  remembers = remembers;
  config_is = config_is;
  stands = subst (λ g. IsFor g s) (sym (last_failed h change before behind done failed)) stands;
  held = subst (IsOpenOrStopped config view (h ++ change ∷ []) s) (sym stopped) (record {
    before = h;
    change = change;
    history = refl;
    place = sym (length_push h change);
    legal = legal;
    done = done;
    faults_before = before;
    faults = behind;
    failed = failed;
    left = left;
  });
  counted = counted;
  recorded = recorded;
  timely = λ runs. absurd (let clash : Some (length h + 1) ≡ None = sym stopped ∙ runs in cc);
}

-- A disk that has what it had

-- all but the disk, and this state, are as they were
abbrev pub beside : View → View → State → View
beside old new state = record old { disk = new.disk; faults = new.faults; state = state }

pub is_beside : (old new : View) (state : State) → new.state ≡ state → IsBeside old new → beside old new state ≡ new
is_beside old new state same rest = λ i. record new { state = (sym same) i; levels = (sym rest.levels) i; retired = (sym rest.retired) i; flights = (sym rest.flights) i; begun = (sym rest.begun) i; rounds = (sym rest.rounds) i; pins = (sym rest.pins) i }

pub idle_back : (old new : Seen) → IsIdle old new → IsTakenBack old new
idle_back old new idle = record { directory = idle.directory; images = λ c here. (idle.left old.moment c).0 (subst (λ m. new.left m c) idle.moment here) }

module _ (old new : View) (back : IsTakenBack old.disk new.disk) where
  back_beside : (s : Stored) → IsRunning old s → IsRunning (beside old new old.state) s
  back_beside s running = record {
    settled = settled_back old.disk new.disk s back running.settled;
    only = subst (λ d. HasOnly s (beside_at d old.retired old.flights) d) (sym back.directory) running.only;
    uncited = subst (λ d. AreUncited s (beside_at d old.retired old.flights)) (sym back.directory) running.uncited;
    untorn = subst (IsUntorn s) (sym back.directory) running.untorn;
    copied = running.copied;
    kept = running.kept;
    rising = running.rising;
    ends = record {
      ascends = running.ends.ascends;
      spelled = λ c here. running.ends.spelled c (back.images c here);
      place = running.ends.place;
    };
    current = running.current;
    tasked = running.tasked;
  }

  -- where all that was done is taken back, the disk is in the store's hands as before
  pub running_back : (s : Stored) → new.state ≡ old.state → IsBeside old new → IsRunning old s → IsRunning new s
  running_back s same rest running = subst (λ view. IsRunning view s) (is_beside old new old.state same rest) (back_beside s running)

  left_back : (config : Fields) (h : History) (change : Option Change) → IsLeft config old.disk h change → IsLeft config new.disk h change
  left_back config h change left = record { now = subst (IsKeptOr config h change) (sym back.directory) left.now; images = λ c here. left.images c (back.images c here) }

  held_back : (config : Fields) (h : History) (s : Stored) (stopped : Option ℕ) → IsOpenOrStopped config old h s stopped → IsOpenOrStopped config (beside old new old.state) h s stopped
  held_back config h s None held = (held.0, back_beside s held.1)
  held_back config h s (Some at) held = record {
    before = held.before;
    change = held.change;
    history = held.history;
    place = held.place;
    legal = held.legal;
    done = held.done;
    faults_before = held.faults_before;
    faults = held.faults;
    failed = held.failed;
    left = left_back config held.before (retried held.change) held.left;
  }

  pub stands_back : (config : Fields) (h : History) → new.state ≡ old.state → IsBeside old new → StandsNow config h old → StandsNow config h new
  stands_back config h same rest stands = subst (StandsNow config h) (is_beside old new old.state same rest) (record {
    legal = stands.legal;
    count = stands.count;
    stored = stands.stored;
    remembers = stands.remembers;
    config_is = stands.config_is;
    stands = stands.stands;
    held = held_back config h stands.stored old.state.stopped stands.held;
    counted = stands.counted;
    recorded = stands.recorded;
    timely = λ runs. subst (AreTimely config.threshold h old.pins.pins old.retired) (sym back.directory) (stands.timely runs);
  })

pub sound_back : (Tells : Type 0) (old new : View) → (Tells → IsTakenBack old.disk new.disk) → new.state ≡ old.state → IsBeside old new → IsSound Tells old → IsSound Tells new
sound_back Tells old new back same rest sound = subst (IsSound Tells) (is_beside old new old.state same rest) (record {
  writable = sound.writable;
  small = sound.small;
  count = sound.count;
  flights = sound.flights;
  flies = sound.flies;
  loose = sound.loose;
  drawn = sound.drawn;
  pins = sound.pins;
  pages = sound.pages;
  held = λ told. let held = sound.held told in (held.0, held.1, λ runs. back_beside old new (back told) held.0 (held.2 runs));
})
