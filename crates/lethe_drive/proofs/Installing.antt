-- Writing on and installing a job.
use Rattle.std.proofs.Common.{◌≡◌, ◌≤◌, ◌⊎◌, inl, inr, ℕ, ◌+◌, ◌-◌, true, false, List, ◌++◌, length, length-append, take, Option, Some, None, Result, Ok, Err, refl, sym, ap, ◌∙◌, subst, arith}
use Rattle.std.specs.Prelude.{IfSome, IsSome, option_map}
use Rattle.std.proofs.Math.Seq.{take-append_seam}
use Rattle.std.proofs.lemmas.List.{map-append, take-take}
use Rattle.lethe_advance.specs.Settled.{names_in}
use Rattle.lethe_base.specs.History.{History}
use Rattle.lethe_base.specs.Limits.{max_place}
use Rattle.lethe_base.specs.declared.call.Call.TheVariants.{Work}
use Rattle.lethe_base.specs.declared.config.Fields.{Fields}
use Rattle.lethe_base.specs.declared.name.Name.{Name}
use Rattle.lethe_base.specs.declared.refused.Refused.{Refused}
use Rattle.lethe_disk.specs.declared.disk.Disk.{Ghosts}
use Rattle.lethe_stored.specs.Stored.{Stored}
use Rattle.lethe_pins.specs.Held.{Held}
use Rattle.lethe_core.specs.Merges.{AreFirst, IsInstalledWith, new_names}
use Rattle.lethe_job.specs.MadeOf.{numbers_in, pages_of}
use Rattle.lethe_job.specs.Tasks.{AreSound}
use Rattle.lethe_job.specs.Works.{PlainTask, inputs_in, plain_task}
use Rattle.lethe_job.specs.declared.job.Job.{Job}
use Rattle.lethe_job.specs.declared.made.Made.{Made}
use Rattle.lethe_core.specs.Asked.{failure_of, refused_to}
use Rattle.lethe_core.specs.Jobs.{IsAtWork, IsInFlight, IsWhole}
use Rattle.lethe_core.specs.Pinned.{AreNamed}
use Rattle.lethe_core.specs.Reasons.{HasReason, IsUnreadable}
use Rattle.lethe_core.specs.Running.{Holds}
use Rattle.lethe_core.specs.Steps.{IsUndone}
use Rattle.lethe_core.specs.Flights.{Flying, company_of, flying_by, with_pages, without}
use Rattle.lethe_core.specs.View.{Face, View, face_of}
use Rattle.lethe_core.proofs.Flying.{flying_pages}
use Rattle.lethe_engine.specs.Answers.{IsStill}
use Rattle.lethe_engine.specs.Jobs as engine
use Rattle.lethe_engine.specs.StandsFor.{Opened, StandsSince}
use Rattle.lethe_drive.specs.Answers.{IsInstall, IsJobRefusal, IsShortToInstall}
use Rattle.lethe_drive.specs.Driving.{IsTheirs, IsWritingOn, IsWrittenOn}
use Rattle.lethe_drive.specs.Moments.{Going, IsKnown, Moment, going_of, moment_of, there_of}
use Rattle.lethe_drive.specs.Replies.{united}
use Rattle.lethe_drive.specs.Steps.{IsAsked, IsNoSuch, IsStep}
use Rattle.lethe_drive.specs.declared.event.Event.TheVariants.{Install}
use Rattle.lethe_drive.specs.declared.event.Reply.{Reply}
use Rattle.lethe_drive.specs.declared.event.Reply.TheVariants.{NoSuch}
use Rattle.lethe_drive.specs.declared.jobs.Jobs.{Jobs}
use Rattle.lethe_drive.specs.declared.jobs.Numbered.{Numbered}
use Rattle.lethe_drive.proofs.Freezing.{work_refused}
use Rattle.lethe_drive.proofs.Knowing.{count_same, known_held, not_stopped, stopped_same}
use Rattle.lethe_drive.proofs.Naming.{no_such, there_is}
use Rattle.lethe_drive.proofs.Reasons.{reason_on}
use Rattle.lethe_drive.proofs.Resting.{without_pages}
use Rattle.lethe_drive.proofs.Writing.{nothing_in, outputs_for, some_of, spoilt}

-- the first of the first pages are first
first_still : (names more : List Name) (s t : Stored) → AreFirst (names ++ more) s t → AreFirst names s t
first_still names more s t are = record {
  first = sym (take-take (length names) (length (names ++ more)) (new_names s t.files) (omega (arith, length-append names more))) ∙ ap (take (length names)) are.first
      ∙ take-append_seam names more;
}

first_before : (number : ℕ) (old mid : List Flying) (s t : Stored) → IsWrittenOn number old mid → IfSome (flying_by number mid) (λ flying. AreFirst (names_in flying.written) s t)
    → IfSome (flying_by number old) (λ flying. AreFirst (names_in flying.written) s t)
first_before number old mid s t written are =
    let flying : Flying = written.flying in
    let found : flying_by number mid ≡ Some (with_pages flying written.pages) =
    ap (flying_by number) written.is ∙ flying_pages number written.pages old ∙ ap (option_map (λ (flying : Flying). with_pages flying written.pages)) written.flies in
    let all : AreFirst (names_in (flying.written ++ written.pages)) s t = subst (λ (flying : Option Flying). IfSome flying (λ flying. AreFirst (names_in flying.written) s t)) found are in
    let split : names_in (flying.written ++ written.pages) ≡ names_in flying.written ++ names_in written.pages =
    map-append (λ (named : Name × List ℕ). named.0) flying.written written.pages in
    subst (λ (flying : Option Flying). IfSome flying (λ flying. AreFirst (names_in flying.written) s t)) (sym written.flies)
    (first_still (names_in flying.written) (names_in written.pages) s t (subst (λ (names : List Name). AreFirst names s t) split all))

module _ {D Page Port : Type 0} {kind : Ghosts D Page Port} where
  -- the task of a job that is handed back
  pub task_back : (job whole back : Job D Page Port kind) → whole.task.value ≡ job.task.value → back.task ≡ whole.task → back.task.value ≡ job.task.value
  task_back job whole back task handed = let same : back.task.value ≡ whole.task.value = λ i. (handed i).value in same ∙ task

  -- a job that was refused something is there still
  pub theirs_spoilt : (Tells : Type 0) (view : View) (begun number : ℕ) (job back : Job D Page Port kind) → back.task.value ≡ job.task.value → (Tells → AreSound (inputs_in (plain_task job.task.value)))
      → IsInFlight view back → back.refused ≡ true → IsTheirs {D = D} {Page = Page} {Port = Port} {kind = kind} Tells view (record { begun = begun; there = Some (record { number = number; job = back }) })
  theirs_spoilt Tells view begun number job back task reads flies refused = record {
    flies = flies;
    works = λ asked. absurd (nothing_in (sym asked ∙ refused));
    reads = λ told. subst (λ (task : PlainTask). AreSound (inputs_in task)) (sym (ap plain_task task)) (reads told);
  }

  module _ (Tells PortsFail : Type 0) (h : History) (old : View) (s : Stored) (number fetches faults begun : ℕ) (snapshots : List ℕ) (job : Job D Page Port kind) where
    abbrev before : Moment
    before = moment_of old s fetches faults begun (Some (going_of number job)) snapshots

    abbrev behind : View → Stored → Job D Page Port kind → Moment
    behind new t back = moment_of new t fetches faults begun (Some (going_of number back)) snapshots

    -- why it was refused, with the job as it is behind that
    abbrev Cause : View → Stored → Job D Page Port kind → Refused → Type 0
    Cause new t back why = IsJobRefusal PortsFail (IsShortToInstall (going_of number job) (behind new t back)) before (going_of number job) (kind.port_faults back.port) (behind new t back) why

    not_installed : (new : View) (t : Stored) (back : Job D Page Port kind) (why : Refused) → back.task.value ≡ job.task.value → back.number ≡ job.number → back.round ≡ job.round → back.refused ≡ true → Cause new t back why → IsWrittenOn job.number old.flights new.flights → new.retired ≡ old.retired
        → new.pins ≡ old.pins → (failure_of why ≡ None → t ≡ s) → IsInstall PortsFail (going_of number job) h before (Err why) (refused_to h 0 Work why) (behind new t back)
    not_installed new t back why task own round refused cause written retired pins kept = record {
      history = refl;
      answers = record {
        spoilt = record { written = back.written; port_faults = kind.port_faults back.port; there = spoilt Tells PortsFail job back task number own round refused };
        reason = cause;
        flying = written.flying;
        flies = written.flies;
        pages = written.pages;
        flights = written.is;
        retired = retired;
        stored = kept;
      };
      pins = record { held = pins; snapshots = refl };
      begun = refl;
      port = record { fetches = refl; port_faults = refl };
    }

    unwritten : (new : View) (t : Stored) (back : Job D Page Port kind) (why : Refused)
        → ((b : ℕ) × (n : ℕ) × (old.faults ≤ b) × (n ≤ new.faults) × HasReason (max_place ≤ new.state.next) old.state b n why)
        ⊎ IsUnreadable (Unit {0}) PortsFail (kind.port_faults job.port) (kind.port_faults back.port) why → Cause new t back why
    unwritten new t back why (inl is) =
        inl (is.0, is.1, is.2, is.3, reason_on (max_place ≤ new.state.next) (IsShortToInstall (going_of number job) (behind new t back)) old.state old.state is.0 is.1 refl refl why is.4 (λ last e runs short. inl short))
    unwritten new t back why (inr is) = inr is

    -- a page that was left was not written
    pub rest_refused : (new : View) (t : Stored) (back : Job D Page Port kind) (why : Refused) → back.task.value ≡ job.task.value → back.number ≡ job.number → back.round ≡ job.round → back.refused ≡ true
        → IsWritingOn PortsFail job.number old new (kind.port_faults job.port) (kind.port_faults back.port) s t (Err why)
        → IsInstall PortsFail (going_of number job) h before (Err why) (refused_to h 0 Work why) (behind new t back)
    rest_refused new t back why task own round refused is = not_installed new t back why task own round refused (unwritten new t back why is.why) is.flights is.retired is.pins is.kept

    -- all pages are written
    module _ (told : Tells) (sound : AreSound (inputs_in (plain_task job.task.value))) (mid : View) (whole : Job D Page Port kind) (task : whole.task.value ≡ job.task.value) (works : IsAtWork Tells mid whole)
        (is : IsWhole whole) where
      short_of : (new : View) (t : Stored) (back : Job D Page Port kind) → new.state.next ≡ mid.state.next → engine.IsShortToInstall mid whole → IsShortToInstall (going_of number job) (behind new t back)
      short_of new t back drawn short =
          let some = some_of whole.made is.made in
          let made : Made = some.0 in
          let P : Option Made → Type 0 = λ o. IfSome o (λ made. max_place ≤ mid.state.next + (numbers_in made - whole.written)) in
          let few : max_place ≤ mid.state.next + (numbers_in made - whole.written) = subst P some.1 short in
          let Q : Option Made → Type 0 = λ o. IfSome o (λ made. whole.written ≡ length (pages_of made)) in
          let all : whole.written ≡ length (pages_of made) = subst Q some.1 is.all in
          inr (
            made,
            outputs_for Tells PortsFail job whole task told sound works.job_is made some.1,
            subst (λ (n : ℕ). max_place ≤ n + (numbers_in made - length (pages_of made))) (sym drawn)
                (subst (λ (n : ℕ). max_place ≤ mid.state.next + (numbers_in made - n)) all few),
          )

      -- the engine refused to install it
      pub install_refused : (config : Fields) (opened : Opened) → StandsSince config opened h old → StandsSince config opened h mid → old.faults ≤ mid.faults → (m : Stored) → IsKnown config h mid m → m ≡ s
          → IsWrittenOn job.number old.flights mid.flights → mid.retired ≡ old.retired → mid.pins ≡ old.pins → (new : View) (back : Job D Page Port kind) (why : Refused) → StandsSince config opened (refused_to h 0 Work why) new
          → (IsSome mid.state.stopped → IsStill Tells mid new) → IsUndone Tells mid new why → face_of new ≡ face_of mid → new.retired ≡ mid.retired → new.pins ≡ mid.pins → back.task.value ≡ job.task.value → back.number ≡ job.number → back.round ≡ job.round → back.refused ≡ true
          → HasReason (engine.IsShortToInstall mid whole) mid.state mid.faults new.faults why → new.state.next ≡ mid.state.next
          → (t : Stored) × IsKnown config (refused_to h 0 Work why) new t × IsInstall PortsFail (going_of number job) h before (Err why) (refused_to h 0 Work why) (behind new t back)
      install_refused config opened was stands later m known stored written retired pins new back why stood still undone face left kept same own round refused reason drawn =
          let is = work_refused Tells told config opened h mid new m known why undone stood still face kept in
          let cause : Cause new is.0 back why = inl (
            mid.faults,
            new.faults,
            later,
            omega arith,
            reason_on (engine.IsShortToInstall mid whole) (IsShortToInstall (going_of number job) (behind new is.0 back)) old.state mid.state mid.faults new.faults
                (stopped_same config h old mid was.now stands.now) (count_same config h old mid was.now stands.now) why reason (λ last e runs short. short_of new is.0 back drawn short),
          ) in
          let flight : new.flights ≡ mid.flights = ap (λ (face : Face). face.flights) face in
          let stay : new.retired ≡ old.retired = left ∙ retired in
          let held : new.pins ≡ old.pins = kept ∙ pins in
          (is.0, is.1, not_installed new is.0 back why same own round refused cause (subst (IsWrittenOn job.number old.flights) (sym flight) written) stay held (λ none. is.2 none ∙ stored))

    -- it was installed
    pub installed_whole : (config : Fields) (opened : Opened) (done : Unit {0}) (mid new : View) → StandsSince config opened h new → (whole : Job D Page Port kind) (m : Stored) (there : Option Going)
        → whole.task.value ≡ job.task.value → whole.number ≡ job.number → IsKnown config h mid m → m ≡ s
        → ((at : ℕ) → mid.state.stopped ≡ Some at → ⊥) → IsWrittenOn job.number old.flights mid.flights
        → (Holds mid m → (t : Stored) × IsInstalledWith (company_of (without whole.number mid.flights)) m (plain_task whole.task.value) t × Holds new t
        × IfSome (flying_by whole.number mid.flights) (λ flying. AreFirst (names_in flying.written) m t)) → new.flights ≡ without whole.number mid.flights → new.pins ≡ mid.pins → mid.pins ≡ old.pins
        → AreNamed new.pins.pins new.retired → there ≡ None
        → (t : Stored) × IsKnown config h new t × IsInstall PortsFail (going_of number job) h before (Ok done) h (moment_of new t fetches faults begun there snapshots)
    installed_whole config opened done mid new stood whole m there task own known same never written install ended pins stay left none =
        let made = install (known.held (not_stopped mid.state.stopped never)) in
        let others : without whole.number mid.flights ≡ without job.number old.flights =
        (λ i. without (own i) mid.flights) ∙ ap (without job.number) written.is ∙ without_pages job.number written.pages old.flights in
        let held : new.pins ≡ old.pins = pins ∙ stay in (
          made.0,
          known_held config opened h new stood made.0 made.2,
          record {
            history = refl;
            answers = record {
              installed = subst (λ (m : Stored). IsInstalledWith (company_of (without job.number old.flights)) m (plain_task job.task.value) made.0) same
                  (subst (λ (task : PlainTask). IsInstalledWith (company_of (without job.number old.flights)) m task made.0) (ap plain_task task)
                  (subst (λ (rest : List Flying). IsInstalledWith (company_of rest) m (plain_task whole.task.value) made.0) others made.1));
              first = subst (λ (m : Stored). IfSome (flying_by job.number old.flights) (λ flying. AreFirst (names_in flying.written) m made.0)) same
                  (first_before job.number old.flights mid.flights m made.0 written
                  (subst (λ (number : ℕ). IfSome (flying_by number mid.flights) (λ flying. AreFirst (names_in flying.written) m made.0)) own made.3));
              retired = subst (λ (pins : Held). AreNamed pins.pins new.retired) held left;
              flights = ended ∙ others;
              there = none;
            };
            pins = record { held = held; snapshots = refl };
            begun = refl;
            port = record { fetches = refl; port_faults = refl };
          },
        )

  module _ (jobs : Jobs D Page Port kind) where
    module _ (h : History) (view : View) (s : Stored) (fetches faults number : ℕ) (snapshots : List ℕ) where
      abbrev now : Moment
      now = moment_of view s fetches faults jobs.begun (there_of jobs) snapshots

      -- it isn't what is asked for, and what was taken is there again
      pub not_asked : ((going : Going) → IsAsked number now going → ⊥) → (there : Option (Numbered D Page Port kind)) → jobs.there ≡ there
          → IsNoSuch (IsAsked number now) h now NoSuch h (moment_of view s fetches faults jobs.begun (there_of {D = D} {Page = Page} {Port = Port} {kind = kind} (record { begun = jobs.begun; there = there })) snapshots)
      not_asked never there is = no_such jobs h view s fetches faults number snapshots (IsAsked number now) never (record { begun = jobs.begun; there = there }) (λ i. record { begun = jobs.begun; there = (sym is) i })

    -- the job that is there was asked to be installed
    pub asked_to_install : (PortsFail : Type 0) (h g : History) (old : View) (s : Stored) (fetches faults number : ℕ) (snapshots : List ℕ) (numbered : Numbered D Page Port kind) (result : Result (Unit {0}) Refused) (reply : Reply)
        (new : Moment) → jobs.there ≡ Some numbered → numbered.number ≡ number → numbered.job.refused ≡ false → reply ≡ united result
        → IsInstall PortsFail (going_of numbered.number numbered.job) h (moment_of old s fetches faults jobs.begun (Some (going_of numbered.number numbered.job)) snapshots) result g new
        → IsStep PortsFail h (moment_of old s fetches faults jobs.begun (there_of jobs) snapshots) (Install number) reply g new
    asked_to_install PortsFail h g old s fetches faults number snapshots numbered result reply new is same asked told install =
        let there = there_is jobs numbered is in
        inr (
          going_of numbered.number numbered.job,
          ((there, same), asked),
          result,
          told,
          subst (λ (going : Option Going). IsInstall PortsFail (going_of numbered.number numbered.job) h (moment_of old s fetches faults jobs.begun going snapshots) result g new) (sym there) install,
        )
