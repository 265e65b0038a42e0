-- Freezes and flushes, and the begin of a job.
use Rattle.std.proofs.Common.{◌≡◌, ◌≢◌, ◌↔◌, ◌⊎◌, inl, inr, ℕ, ◌+◌, Bool, true, false, List, [], ◌∷◌, ◌++◌, Option, Some, None, Result, Ok, Err, refl, sym, ap, ◌∙◌, subst}
use Rattle.std.specs.Prelude.{IfErr, IfSome, IsSome}
use Rattle.std.proofs.lemmas.Option.{none-some}
use Rattle.std.specs.Result.{result_err}
use Rattle.lethe_base.specs.History.{History}
use Rattle.lethe_base.specs.Limits.{max_place}
use Rattle.lethe_base.specs.declared.call.Call.TheVariants.{Work}
use Rattle.lethe_base.specs.declared.config.Fields.{Fields}
use Rattle.lethe_base.specs.declared.refused.Refused.{Refused}
use Rattle.lethe_base.specs.declared.refused.Refused.TheVariants.{Fault, Stopped, Backwards, Pinned, NothingDue, Cancelled, Exhausted, ReadFault, NoMemory, Damaged}
use Rattle.lethe_disk.specs.Disk.{IsIdle}
use Rattle.lethe_disk.specs.declared.disk.Disk.{Ghosts}
use Rattle.lethe_stored.specs.Files.{Parts}
use Rattle.lethe_stored.specs.Stored.{Stored}
use Rattle.lethe_state.specs.Remembered.{Remembers}
use Rattle.lethe_state.specs.declared.state.State.{State}
use Rattle.lethe_job.specs.Works.{IsBegunIn, plain_task}
use Rattle.lethe_job.specs.declared.job.Job.{Job}
use Rattle.lethe_core.specs.Asked.{Serves, behind, failure_of, refused_to}
use Rattle.lethe_core.specs.Jobs.{IsAtWork}
use Rattle.lethe_core.specs.Merges.{HasNoMerge}
use Rattle.lethe_core.specs.Reasons.{HasReason}
use Rattle.lethe_core.specs.Running.{Holds}
use Rattle.lethe_core.specs.Steps.{IsBeside, IsUndone}
use Rattle.lethe_core.specs.Flights.{Flying}
use Rattle.lethe_core.specs.View.{Face, View, face_of}
use Rattle.lethe_core.proofs.Likes.{before_holds}
use Rattle.lethe_core.proofs.Standing.{idle_back, running_back}
use Rattle.lethe_engine.specs.Answers.{IsRefused, IsStill}
use Rattle.lethe_engine.specs.Refusals.{HasReasonOfBegin}
use Rattle.lethe_engine.specs.StandsFor.{Opened, StandsSince}
use Rattle.lethe_drive.specs.Answers.{IsBegin, IsUnbegun, IsWork}
use Rattle.lethe_drive.specs.Moments.{Going, IsAllButPort, IsKnown, IsUntouched, going_of, moment_of}
use Rattle.lethe_drive.proofs.Knowing.{known_held, not_stopped, ok_or_err, refused_known}

-- Freezes and flushes

flags : ◌≡◌ {A = Result Bool Refused} (Ok true) (Ok false) → ⊥
flags both = cc

-- Work that was refused: what is stored is as it was, unless the disk failed.
module _ (Tells : Type 0) (told : Tells) (config : Fields) (opened : Opened) (h : History) (old new : View) (s : Stored) (known : IsKnown config h old s) (why : Refused)
    (undone : IsUndone Tells old new why) where
  pub work_refused : StandsSince config opened (refused_to h 0 Work why) new → (IsSome old.state.stopped → IsStill Tells old new) → face_of new ≡ face_of old → new.pins ≡ old.pins
      → (t : Stored) × IsKnown config (refused_to h 0 Work why) new t × (failure_of why ≡ None → t ≡ s)
  work_refused stood still face pins =
      refused_known Tells config opened h old new s known Work why stood still (λ (t : Stored). t ≡ s) refl (λ none holds. (s, refl, before_holds Tells told old new s face pins (undone none) holds))

  -- and all else
  pub work_untouched : new.pins ≡ old.pins → (t : Stored) → (failure_of why ≡ None → t ≡ s) → (fetches_before fetches_now faults_before faults_now begun_before begun_now : ℕ) (there then : Option Going) (snapshots : List ℕ) → failure_of why ≡ None
      → IsUntouched (moment_of old s fetches_before faults_before begun_before there snapshots) (moment_of new t fetches_now faults_now begun_now then snapshots)
  work_untouched pins t same fetches_before fetches_now faults_before faults_now begun_before begun_now there then snapshots none =
      let is = undone none in
      record { stored = same none; state = is.state; levels = is.levels; retired = is.retired; pins = pins; directory = (is.disk told).directory }

module _ (Tells : Type 0) (told : Tells) (config : Fields) (opened : Opened) (h : History) (old new : View) (s : Stored) (known : IsKnown config h old s) (fetches faults begun : ℕ) (there : Option Going) (snapshots : List ℕ)
    (Nothing : State → Type 0) (Does : Stored → Stored → Type 0) (Short : Type 0) (face : face_of new ≡ face_of old) (retired : new.retired ≡ old.retired) (pins : new.pins ≡ old.pins) where
  same_moment : new ≡ old → IsAllButPort (moment_of old s fetches faults begun there snapshots) (moment_of new s fetches faults begun there snapshots)
  same_moment same = subst (λ (view : View). IsAllButPort (moment_of old s fetches faults begun there snapshots) (moment_of view s fetches faults begun there snapshots)) (sym same)
      (record { stored = refl; state = refl; levels = refl; retired = refl; pins = refl; flights = refl; directory = refl; calls = refl; faults = refl; begun = refl; there = refl; snapshots = refl })

  flight : new.flights ≡ old.flights
  flight = ap (λ (face : Face). face.flights) face

  abbrev pub Worked : Result Bool Refused → Type 0
  Worked result = (t : Stored) × IsKnown config (behind h 0 (Serves Work) (result_err result)) new t
      × IsWork (λ m. Nothing m.state) Does Short h (moment_of old s fetches faults begun there snapshots) result (behind h 0 (Serves Work) (result_err result)) (moment_of new t fetches faults begun there snapshots)

  pub worked : (result : Result Bool Refused) → StandsSince config opened (behind h 0 (Serves Work) (result_err result)) new → (IsSome old.state.stopped → IsStill Tells old new)
      → IfSome (result_err result) (IsRefused Tells (Serves Work) old new) → ((result ≡ Ok false) ↔ Nothing old.state) → (result ≡ Ok false → new ≡ old)
      → (Holds old s → result ≡ Ok true → (t : Stored) × Does s t × Holds new t) → IfErr result (HasReason Short old.state old.faults new.faults)
      → ((at : ℕ) → old.state.stopped ≡ Some at → result ≡ Err (Stopped at))
      → (old.state.stopped ≡ None → (Nothing old.state → ⊥) → old.state.count ≡ max_place → result ≡ Err (Exhausted max_place)) → Worked result
  worked (Ok true) stood still refused idle same done why stopped last =
      let made = done (known.held (not_stopped old.state.stopped (λ at e. ok_or_err true (Stopped at) (stopped at e)))) refl in (
        made.0,
        known_held config opened h new stood made.0 made.2,
        record {
          history = refl;
          idle = idle;
          same = λ e. absurd (flags e);
          done = λ e. made.1;
          why = tt;
          untouched = tt;
          stops = stopped;
          last = last;
          jobs = record { flights = flight; begun = refl; there = refl };
          retired = retired;
          pins = record { held = pins; snapshots = refl };
          port = record { fetches = refl; port_faults = refl };
        },
      )
  worked (Ok false) stood still refused idle same done why stopped last = (
    s,
    subst (λ (view : View). IsKnown config h view s) (sym (same refl)) known,
    record {
      history = refl;
      idle = idle;
      same = λ e. same_moment (same refl);
      done = λ e. absurd (flags (sym e));
      why = tt;
      untouched = tt;
      stops = stopped;
      last = last;
      jobs = record { flights = flight; begun = refl; there = refl };
      retired = retired;
      pins = record { held = pins; snapshots = refl };
      port = record { fetches = refl; port_faults = refl };
    },
  )
  worked (Err why) stood still refused idle same done reason stopped last =
      let is = work_refused Tells told config opened h old new s known why refused stood still face pins in (
        is.0,
        is.1,
        record {
          history = refl;
          idle = idle;
          same = λ e. absurd (ok_or_err false why (sym e));
          done = λ e. absurd (ok_or_err true why (sym e));
          why = reason;
          untouched = work_untouched Tells told config opened h old new s known why refused pins is.0 is.2 fetches fetches faults faults begun begun there there snapshots;
          stops = stopped;
          last = last;
          jobs = record { flights = flight; begun = refl; there = refl };
          retired = retired;
          pins = record { held = pins; snapshots = refl };
          port = record { fetches = refl; port_faults = refl };
        },
      )

-- The begin of a job

-- where it isn't so that one is in flight, none is
none_flying : (flights : List Flying) → (flights ≢ [] → ⊥) → flights ≡ []
none_flying [] never = refl
none_flying (flying ∷ more) never = absurd (never (λ same. cc))

-- no device call was made, and the store is as it was
pub known_idle : (config : Fields) (h : History) (old new : View) (s : Stored) → IsIdle old.disk new.disk → new.state ≡ old.state → new.levels ≡ old.levels → face_of new ≡ face_of old → new.retired ≡ old.retired → new.pins ≡ old.pins
    → IsKnown config h old s → IsKnown config h new s
known_idle config h old new s idle state levels face retired pins known =
    let remembers = subst (λ (state : State). Remembers s state new.levels) (sym state) (subst (λ (levels : List (List Parts)). Remembers s old.state levels) (sym levels) known.remembers) in
    let is_beside : IsBeside old new =
    record { levels = levels; retired = retired; flights = ap (λ (face : Face). face.flights) face; begun = ap (λ (face : Face). face.begun) face; rounds = ap (λ (face : Face). face.rounds) face; pins = pins } in
    record {
      config_is = known.config_is;
      stands = known.stands;
      remembers = remembers;
      held = λ runs. record {
        remembers = remembers;
        running = running_back old new (idle_back old.disk new.disk idle) s state is_beside (known.held (sym (ap (λ (state : State). state.stopped) state) ∙ runs)).running;
      };
    }

module _ (config : Fields) (h : History) (old new : View) (s : Stored) (fetches faults begun : ℕ) (there : Option Going) (snapshots : List ℕ)
    (state : new.state ≡ old.state) (levels : new.levels ≡ old.levels) (retired : new.retired ≡ old.retired) (pins : new.pins ≡ old.pins) (idle : IsIdle old.disk new.disk) where
  -- it was begun
  pub has_begun : {D Page Port : Type 0} {kind : Ghosts D Page Port} (Tells : Type 0) (job : Job D Page Port kind) → job.round ≡ old.rounds → old.state.stopped ≡ None → (old.flights ≢ [] → ⊥) → new.flights ≡ old.flights ++ record { number = job.number; task = plain_task job.task.value; written = [] } ∷ [] → IsBegunIn s (plain_task job.task.value)
      → IsAtWork Tells new job → job.made ≡ None → kind.port_faults job.port ≡ 0
      → IsBegin h (moment_of old s fetches faults begun there snapshots) (Ok begun) h (moment_of new s fetches faults (begun + 1) (Some (going_of begun job)) snapshots)
  has_begun {kind = kind} Tells job round runs busy flies is works unmade unread =
      let free = none_flying old.flights busy in
      record {
        history = refl;
        answers = record {
          number_is = refl;
          task = plain_task job.task.value;
          begun = is;
          own = job.number;
          free = free;
          flights = flies ∙ ap (λ (flights : List Flying). flights ++ record { number = job.number; task = plain_task job.task.value; written = [] } ∷ []) free;
          there = λ i. Some (record { number = begun; own = job.number; round = round i; refused = works.asked i; task = plain_task job.task.value; written = works.job_is.unmade unmade i; port_faults = unread i });
          count = refl;
        };
        stops = λ at e. absurd (none-some at (sym runs ∙ e));
        busy = λ runs flying. absurd (busy flying);
        stored = refl;
        state = state;
        levels = levels;
        retired = retired;
        pins = record { held = pins; snapshots = refl };
        directory = idle.directory;
        calls = idle.moment;
        port = record { fetches = refl; port_faults = refl };
      }

  unbegun : (Tells : Type 0) → Tells → IsKnown config h old s → (why : Refused) → HasReasonOfBegin Tells old why → IsUnbegun (moment_of old s fetches faults begun there snapshots) why
  unbegun Tells told known (Stopped at) is = is
  unbegun Tells told known NothingDue is = (is.0, none_due is.1)
    where
      none_due : (old.flights ≢ []) ⊎ (Tells → (s : Stored) → Holds old s → HasNoMerge s) → (old.flights ≢ []) ⊎ HasNoMerge s
      none_due (inl busy) = inl busy
      none_due (inr none) = inr (none told s (known.held is.0))
  unbegun Tells told known NoMemory is = tt
  unbegun Tells told known (Fault place before after) is = is
  unbegun Tells told known (Backwards clock) is = is
  unbegun Tells told known (Pinned pin limit) is = is
  unbegun Tells told known (Cancelled first now) is = is
  unbegun Tells told known (Exhausted last) is = is
  unbegun Tells told known (ReadFault before after) is = is
  unbegun Tells told known (Damaged name) is = is

  -- it was refused
  pub has_not_begun : (Tells : Type 0) → Tells → IsKnown config h old s → (why : Refused) → HasReasonOfBegin Tells old why → new.flights ≡ old.flights
      → ((at : ℕ) → old.state.stopped ≡ Some at → ◌≡◌ {A = Result ℕ Refused} (Err why) (Err (Stopped at))) → (old.state.stopped ≡ None → old.flights ≢ [] → ◌≡◌ {A = Result ℕ Refused} (Err why) (Err NothingDue))
      → IsBegin h (moment_of old s fetches faults begun there snapshots) (Err why) h (moment_of new s fetches faults begun there snapshots)
  has_not_begun Tells told known why is flight stops busy = record {
    history = refl;
    answers = (unbegun Tells told known why is, record { flights = flight; begun = refl; there = refl });
    stops = stops;
    busy = busy;
    stored = refl;
    state = state;
    levels = levels;
    retired = retired;
    pins = record { held = pins; snapshots = refl };
    directory = idle.directory;
    calls = idle.moment;
    port = record { fetches = refl; port_faults = refl };
  }
