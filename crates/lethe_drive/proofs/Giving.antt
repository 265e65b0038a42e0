-- The job of a run that hasn't ended, and giving it up.
use Rattle.std.proofs.Common.{◌≡◌, ◌<◌, ℕ, Bool, true, false, List, length, Option, Some, None, Result, Ok, Err, refl, sym, ap, ◌∙◌, subst}
use Rattle.std.specs.Prelude.{◌&&◌, IfErr, IfSome, IsOk, IsSome, OnErr, OnOk, if◌then◌else◌, is_none, nat_le, option_map}
use Rattle.std.specs.Result.{result_err}
use Rattle.std.proofs.lemmas.Option.{none-some, same_Some}
use Rattle.lethe_base.specs.History.{History}
use Rattle.lethe_base.specs.Limits.{max_place}
use Rattle.lethe_base.specs.declared.call.Call.TheVariants.{Work}
use Rattle.lethe_base.specs.declared.config.Fields.{Fields}
use Rattle.lethe_base.specs.declared.refused.Refused.{Refused}
use Rattle.lethe_base.specs.declared.refused.Refused.TheVariants.{Fault, Stopped, Backwards, Pinned, NothingDue, Cancelled, Exhausted, ReadFault, NoMemory, Damaged}
use Rattle.lethe_disk.specs.declared.disk.Disk.{Ghosts}
use Rattle.lethe_stored.specs.Stored.{Stored}
use Rattle.lethe_state.specs.declared.state.State.{State}
use Rattle.lethe_job.specs.Tasks.{AreSound}
use Rattle.lethe_job.specs.Works.{IsBegunIn, PlainTask, inputs_in, plain_task}
use Rattle.lethe_job.specs.declared.job.Job.{Job}
use Rattle.lethe_core.specs.Asked.{Serves, behind, failure_of}
use Rattle.lethe_core.specs.Jobs.{IsAtWork, IsInFlight}
use Rattle.lethe_core.specs.Reasons.{HasReason}
use Rattle.lethe_core.specs.Running.{Holds, IsSound}
use Rattle.lethe_core.specs.Flights.{Flying, flying_by, without}
use Rattle.lethe_core.specs.View.{Face, View}
use Rattle.lethe_core.proofs.Asked.{not_none}
use Rattle.lethe_core.proofs.Hindered.{like_of}
use Rattle.lethe_core.proofs.Installing.{begun_sound}
use Rattle.lethe_engine.specs.Answers.{IsRefused, IsStill}
use Rattle.lethe_engine.specs.Jobs as engine
use Rattle.lethe_engine.specs.StandsFor.{Opened, StandsSince}
use Rattle.lethe_drive.specs.Answers.{IsCancel, IsKeptUp}
use Rattle.lethe_drive.specs.Driving.{IsTheirs}
use Rattle.lethe_drive.specs.Moments.{Going, IsGoing, IsKnown, IsUntouched, going_of, moment_of, there_of}
use Rattle.lethe_drive.specs.declared.jobs.Jobs.{Jobs}
use Rattle.lethe_drive.specs.declared.jobs.Numbered.{Numbered}
use Rattle.lethe_drive.proofs.Knowing.{known_held, not_stopped, ok_or_err, refused_known}
use Rattle.lethe_drive.proofs.Freezing.{work_untouched}
use Rattle.lethe_drive.proofs.Writing.{nothing_in}

-- What is known of the job

-- a job that may be asked was refused nothing
pub worked_on : {T P : Type 0} (refused : Bool) (result : Result T Refused) → refused ≡ false → OnErr result (refused ≡ true) → OnOk result P → P
worked_on refused (Ok x) asked spoilt works = works
worked_on refused (Err why) asked spoilt works = absurd (nothing_in (sym asked ∙ spoilt))

module _ {D Page Port : Type 0} {kind : Ghosts D Page Port} (Tells : Type 0) (view : View) (jobs : Jobs D Page Port kind) (is : IsTheirs Tells view jobs) (numbered : Numbered D Page Port kind)
    (there : jobs.there ≡ Some numbered) where
  pub theirs_flies : IsInFlight view numbered.job
  theirs_flies = subst (λ (o : Option (Numbered D Page Port kind)). IfSome o (λ numbered. IsInFlight view numbered.job)) there is.flies

  pub theirs_asked : numbered.job.refused ≡ false → IsAtWork Tells view numbered.job
  theirs_asked = subst (λ (o : Option (Numbered D Page Port kind)). IfSome o (λ numbered. numbered.job.refused ≡ false → IsAtWork Tells view numbered.job)) there is.works

  pub theirs_sound : Tells → AreSound (inputs_in (plain_task numbered.job.task.value))
  theirs_sound = subst (λ (o : Option (Numbered D Page Port kind)). IfSome o (λ numbered. Tells → AreSound (inputs_in (plain_task numbered.job.task.value)))) there is.reads

  -- where it is put back
  pub theirs_back : IsTheirs Tells view (record jobs { there = Some numbered })
  theirs_back = record { flies = theirs_flies; works = theirs_asked; reads = theirs_sound }

  -- behind a call of it
  pub theirs_called : {T : Type 0} (new : View) (job : Job D Page Port kind) (result : Result T Refused) → IsInFlight new job → OnErr result (job.refused ≡ true) → OnOk result (IsAtWork Tells new job)
      → job.task.value ≡ numbered.job.task.value → IsTheirs Tells new (record jobs { there = Some (record numbered { job = job }) })
  theirs_called new job result flies spoilt works task = record {
    flies = flies;
    works = λ asked. worked_on job.refused result asked spoilt works;
    reads = subst (λ (task : PlainTask). Tells → AreSound (inputs_in task)) (sym (ap plain_task task)) theirs_sound;
  }

-- the files that go in a job that was begun are stored
pub begun_reads : (Tells : Type 0) (view : View) (task : PlainTask) → IsSound Tells view → view.state.stopped ≡ None → (Tells → (s : Stored) → Holds view s → IsBegunIn s task) → Tells → AreSound (inputs_in task)
begun_reads Tells view task sound runs begun told =
    let held = sound.held told in
    begun_sound view task (begun told) held.0 (record { remembers = held.1; running = held.2 runs })

-- no job is there
pub theirs_none : {D Page Port : Type 0} {kind : Ghosts D Page Port} (Tells : Type 0) (view : View) (begun : ℕ) (there : Option (Numbered D Page Port kind)) → there ≡ None
    → IsTheirs {D = D} {Page = Page} {Port = Port} {kind = kind} Tells view (record { begun = begun; there = there })
theirs_none Tells view begun there none = subst (λ there. IsTheirs Tells view (record { begun = begun; there = there })) (sym none) (record { flies = tt; works = tt; reads = tt })

-- where nothing happens to the job in flight
pub theirs_on : {D Page Port : Type 0} {kind : Ghosts D Page Port} (Tells : Type 0) (old new : View) (jobs : Jobs D Page Port kind) → new.flights ≡ old.flights → new.rounds ≡ old.rounds → IsTheirs Tells old jobs → IsTheirs Tells new jobs
theirs_on {D} {Page} {Port} {kind} Tells old new jobs same rounds is = record {
  flies = flies_on jobs.there is.flies;
  works = works_on jobs.there is.works;
  reads = is.reads;
}
  where
    flies_on : (there : Option (Numbered D Page Port kind)) → IfSome there (λ numbered. IsInFlight old numbered.job) → IfSome there (λ numbered. IsInFlight new numbered.job)
    flies_on None is = tt
    flies_on (Some numbered) is = record { flying = is.flying; is = ap (flying_by numbered.job.number) same ∙ is.is; task = is.task; round = is.round ∙ sym rounds }

    works_on : (there : Option (Numbered D Page Port kind)) → IfSome there (λ numbered. numbered.job.refused ≡ false → IsAtWork Tells old numbered.job)
        → IfSome there (λ numbered. numbered.job.refused ≡ false → IsAtWork Tells new numbered.job)
    works_on None is = tt
    works_on (Some numbered) is = λ asked.
        let works = is asked in
        record { flies = flies_on (Some numbered) works.flies; asked = works.asked; job_is = works.job_is; count = works.count; pages = works.pages }

-- how it is told
pub going_there : {D Page Port : Type 0} {kind : Ghosts D Page Port} (Tells : Type 0) (view : View) (jobs : Jobs D Page Port kind) → IsTheirs Tells view jobs → IfSome (there_of jobs) (IsGoing view.flights)
going_there {D} {Page} {Port} {kind} Tells view jobs is = by jobs.there is.flies is.works
  where
    by : (there : Option (Numbered D Page Port kind)) → IfSome there (λ numbered. IsInFlight view numbered.job) → IfSome there (λ numbered. numbered.job.refused ≡ false → IsAtWork Tells view numbered.job)
        → IfSome (option_map (λ (numbered : Numbered D Page Port kind). going_of numbered.number numbered.job) there) (IsGoing view.flights)
    by None flies works = tt
    by (Some numbered) flies works = record {
      flying = flies.flying;
      flies = flies.is;
      task = sym flies.task;
      pages = λ asked.
          let at_work = works asked in
          let same : flies.flying ≡ at_work.flies.flying = same_Some flies.flying at_work.flies.flying (sym flies.is ∙ at_work.flies.is) in
          ap (λ (flying : Flying). length flying.written) same ∙ at_work.count;
    }

-- Giving it up

-- it was acknowledged
pub given : (result : Result (Unit {0}) Refused) → IsOk result → result ≡ Ok tt
given (Ok done) is = refl
given (Err why) is = absurd (nothing_in is)

-- no round ends
pub given_up_rounds : (number : ℕ) (face : Face) (state : State) → (engine.given_up number face state).rounds ≡ face.rounds
given_up_rounds number face state = by (is_none state.stopped && nat_le max_place state.count)
  where
    by : (full : Bool) → (if full then face else record face { flights = without number face.flights }).rounds ≡ face.rounds
    by true = refl
    by false = refl

-- on a store that runs giving up is refused only where the disk fails
must_fail : (state : State) (before now : ℕ) (why : Refused) → HasReason ⊥ state before now why → (why ≡ NoMemory → ⊥) → ((last : ℕ) → why ≡ Exhausted last → ⊥) → state.stopped ≡ None → failure_of why ≡ None → ⊥
must_fail state before now (Fault place b a) is memory numbers runs none = not_none (record { place = place; before = b; after = a }) none
must_fail state before now (Stopped at) is memory numbers runs none = none-some at (sym runs ∙ is)
must_fail state before now NoMemory is memory numbers runs none = memory refl
must_fail state before now (Exhausted last) is memory numbers runs none = numbers last refl
must_fail state before now (Backwards clock) is memory numbers runs none = is
must_fail state before now (Pinned pin limit) is memory numbers runs none = is
must_fail state before now NothingDue is memory numbers runs none = is
must_fail state before now (Cancelled first other) is memory numbers runs none = is
must_fail state before now (ReadFault b a) is memory numbers runs none = is
must_fail state before now (Damaged name) is memory numbers runs none = is

module _ (Tells : Type 0) (told : Tells) (config : Fields) (opened : Opened) (h : History) (old new : View) (s : Stored) (known : IsKnown config h old s) (fetches faults begun : ℕ) (there gone : Option Going) (snapshots : List ℕ)
    (none : gone ≡ None) where
  kept_up : (t : Stored) (why : Refused) → HasReason ⊥ old.state old.faults new.faults why → (why ≡ NoMemory → ⊥) → ((last : ℕ) → why ≡ Exhausted last → ⊥)
      → IsKeptUp (moment_of old s fetches faults begun there snapshots) (moment_of new t fetches faults begun gone snapshots) why
  kept_up t (Fault place before after) is memory numbers = is
  kept_up t (Stopped at) is memory numbers = is
  kept_up t NoMemory is memory numbers = memory refl
  kept_up t (Exhausted last) is memory numbers = numbers last refl
  kept_up t (Backwards clock) is memory numbers = is
  kept_up t (Pinned pin limit) is memory numbers = is
  kept_up t NothingDue is memory numbers = is
  kept_up t (Cancelled first now) is memory numbers = is
  kept_up t (ReadFault before after) is memory numbers = is
  kept_up t (Damaged name) is memory numbers = is

  same_untouched : new ≡ old → IsUntouched (moment_of old s fetches faults begun there snapshots) (moment_of new s fetches faults begun gone snapshots)
  same_untouched same = record {
    stored = refl;
    state = like_of old.state new.state (ap (λ (view : View). view.state) same);
    levels = ap (λ (view : View). view.levels) same;
    retired = ap (λ (view : View). view.retired) same;
    pins = ap (λ (view : View). view.pins) same;
    directory = ap (λ (view : View). view.disk.directory) same;
  }

  abbrev pub GivenUp : Result (Unit {0}) Refused → Type 0
  GivenUp result = (t : Stored) × IsKnown config (behind h 0 (Serves Work) (result_err result)) new t × IsCancel h (moment_of old s fetches faults begun there snapshots) result (behind h 0 (Serves Work) (result_err result)) (moment_of new t fetches faults begun gone snapshots)

  pub given_up : (result : Result (Unit {0}) Refused) → StandsSince config opened (behind h 0 (Serves Work) (result_err result)) new → (IsSome old.state.stopped → IsStill Tells old new)
      → IfSome (result_err result) (IsRefused Tells (Serves Work) old new) → (Holds old s → OnOk result (Holds new s)) → ((old.state.stopped ≡ None → old.state.count < max_place) → IfSome there (λ going. new.flights ≡ without going.own old.flights)) → new.retired ≡ old.retired → new.pins ≡ old.pins
      → IfErr result (HasReason ⊥ old.state old.faults new.faults) → (result ≡ Err NoMemory → ⊥) → ((last : ℕ) → result ≡ Err (Exhausted last) → ⊥)
      → ((at : ℕ) → old.state.stopped ≡ Some at → result ≡ Err (Stopped at)) → (old.state.stopped ≡ None → old.state.count ≡ max_place → (result ≡ Ok tt) × (new ≡ old)) → GivenUp result
  given_up (Ok done) stood still refused held free retired pins why memory numbers stopped last =
      let holds = held (known.held (not_stopped old.state.stopped (λ at e. ok_or_err done (Stopped at) (stopped at e)))) in (
        s,
        known_held config opened h new stood s holds,
        record {
          history = refl;
          why = tt;
          stops = stopped;
          there = none;
          free = free;
          last = λ runs full. let is = last runs full in (is.0, same_untouched is.1, ap (λ (view : View). view.flights) is.1);
          stored = λ done e. refl;
          untouched = tt;
          retired = retired;
          pins = record { held = pins; snapshots = refl };
          begun = refl;
          port = record { fetches = refl; port_faults = refl };
        },
      )
  given_up (Err why) stood still refused held free retired pins reason memory numbers stopped last =
      let no_memory : why ≡ NoMemory → ⊥ = λ e. memory (λ i. Err (e i)) in
      let enough : (last : ℕ) → why ≡ Exhausted last → ⊥ = λ last e. numbers last (λ i. Err (e i)) in
      let is = refused_known Tells config opened h old new s known Work why stood still (λ (t : Stored). t ≡ s) refl
      (λ fine holds. absurd (must_fail old.state old.faults new.faults why reason no_memory enough holds.running.current.runs fine)) in (
        is.0,
        is.1,
        record {
          history = refl;
          why = kept_up is.0 why reason no_memory enough;
          stops = stopped;
          there = none;
          free = free;
          last = λ runs full. absurd (ok_or_err tt why (sym (last runs full).0));
          stored = λ done e. absurd (ok_or_err done why (sym e));
          untouched = work_untouched Tells told config opened h old new s known why refused pins is.0 is.2 fetches fetches faults faults begun begun there gone snapshots;
          retired = retired;
          pins = record { held = pins; snapshots = refl };
          begun = refl;
          port = record { fetches = refl; port_faults = refl };
        },
      )
