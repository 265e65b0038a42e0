use Rattle.std.proofs.Common.{◌≡◌, [], ◌∷◌, ◌++◌, Ok, Err, None, refl, sym, ap, ◌∙◌, subst}
use Rattle.lethe_base.specs.History.{History}
use Rattle.lethe_base.specs.declared.call.Call.TheVariants.{Work}
use Rattle.lethe_base.specs.declared.refused.Refused.TheVariants.{NothingDue, Stopped}
use Rattle.lethe_advance.specs.Shown.{parts_by_level}
use Rattle.lethe_job.specs.Works.{plain_task}
use Rattle.lethe_core.specs.View.{Face, view_of}
use Rattle.lethe_core.proofs.Asked.{refused_none}
use Rattle.lethe_engine.specs.StandsFor.{StandsFor}
use Rattle.lethe_engine.proofs.Reasons.{no_failure_of_begin}
use Rattle.lethe_drive.specs.Moments.{there_of}
use Rattle.lethe_drive.proofs.Certificates.{stands_call}
use Rattle.lethe_drive.proofs.Freezing.{has_begun, has_not_begun, known_idle}
use Rattle.lethe_drive.proofs.Giving.{begun_reads, theirs_on}
use Rattle.lethe_drive.proofs.Kept.{kept_call}
use Rattle.lethe_drive.proofs.Knowing.{known_held, not_stopped, ok_or_err, refused_as}
use Rattle.lethe_drive.proofs.working.begin.Goals as goal

pub returns-in-Ok-clause-jobs : goal.returns-in-Ok-clause-jobs
returns-in-Ok-clause-jobs g c =
    let old = view_of c.args.engine.now.core in
    let is = c.in-Ok.ensures in
    let runs : old.state.stopped ≡ None = not_stopped old.state.stopped (λ at e. ok_or_err c.in-Ok.job (Stopped at) (is.stopped at e).0) in
    record {
      flies = is.works.flies;
      works = λ asked. is.works;
      reads = begun_reads g.D.Disk.tells old (plain_task c.in-Ok.job.task.value) c.requires.sound runs (λ told s holds. (is.begun told s holds).0);
    }

pub returns-in-Ok-clause-step : goal.returns-in-Ok-clause-step
returns-in-Ok-clause-step g c = λ told config opened h answered stands s known fetches faults snapshots.
    let old = view_of c.args.engine.now.core in
    let new = view_of c.begin.new.self.core in
    let jobs = c.args.jobs.now in
    let job = c.in-Ok.job in
    let is = c.in-Ok.ensures in
    let runs : old.state.stopped ≡ None = not_stopped old.state.stopped (λ at e. ok_or_err job (Stopped at) (is.stopped at e).0) in
    let begun = is.begun told s (known.held runs) in
    let face = ap (λ (face : Face). face.flights) is.answers.face_is in
    let first : old.begun ≡ job.number = sym is.number.0 in
    let flies : new.flights ≡ old.flights ++ record { number = job.number; task = plain_task job.task.value; written = [] } ∷ [] =
    face ∙ (λ i. old.flights ++ record { number = first i; task = plain_task job.task.value; written = [] } ∷ []) in
    let retired : new.retired ≡ old.retired = let left = is.same.2 in λ i. (left i).items in
    let pins : new.pins ≡ old.pins = is.pins in
    let stood = stands_call is.answers told config opened h answered stands in (
      h,
      s,
      known_held config opened h new stood.since s begun.1,
      stood,
      (
        Ok jobs.begun,
        refl,
        has_begun config h old new s fetches faults jobs.begun (there_of jobs) snapshots is.same.0 (λ i. parts_by_level (is.same.1 i)) retired pins (is.idle told) g.D.Disk.tells job is.number.1 runs
            (λ busy. ok_or_err job NothingDue (is.busy runs busy).0) flies begun.0 is.works is.unmade.0 is.unmade.2,
      ),
    )

pub returns-in-Err-clause-jobs : goal.returns-in-Err-clause-jobs
returns-in-Err-clause-jobs g c =
    theirs_on g.D.Disk.tells (view_of c.args.engine.now.core) (view_of c.begin.new.self.core) c.args.jobs.now (ap (λ (face : Face). face.flights) c.in-Err.ensures.answers.face_is) (ap (λ (face : Face). face.rounds) c.in-Err.ensures.answers.face_is) c.requires.jobs

pub returns-in-Err-clause-step : goal.returns-in-Err-clause-step
returns-in-Err-clause-step g c = λ told config opened h answered stands s known fetches faults snapshots.
    let old = view_of c.args.engine.now.core in
    let new = view_of c.begin.new.self.core in
    let jobs = c.args.jobs.now in
    let why = c.in-Err.why in
    let is = c.in-Err.ensures in
    let flight : new.flights ≡ old.flights = ap (λ (face : Face). face.flights) is.answers.face_is in
    let retired : new.retired ≡ old.retired = let left = is.same.2 in λ i. (left i).items in
    let pins : new.pins ≡ old.pins = is.pins in
    let levels : new.levels ≡ old.levels = λ i. parts_by_level (is.same.1 i) in (
      h,
      s,
      known_idle config h old new s (is.idle told) is.same.0 levels is.answers.face_is retired pins known,
      subst (λ (g : History). StandsFor config opened g new answered) (refused_none h 0 Work why (no_failure_of_begin g.D.Disk.tells old why is.why)) (stands_call is.answers told config opened h answered stands),
      (
        Err why,
        refl,
        has_not_begun config h old new s fetches faults jobs.begun (there_of jobs) snapshots is.same.0 levels retired pins (is.idle told) g.D.Disk.tells told known why is.why flight
            (λ at e. refused_as c.begin.result why (Stopped at) c.in-Err.is (c.begin.ensures.stopped at e).0)
            (λ runs busy. refused_as c.begin.result why NothingDue c.in-Err.is (c.begin.ensures.busy runs busy).0),
      ),
    )

pub returns-in-Ok-clause-rounds : goal.returns-in-Ok-clause-rounds
returns-in-Ok-clause-rounds g c = ap (λ (face : Face). face.rounds) c.in-Ok.ensures.answers.face_is

pub returns-in-Err-clause-rounds : goal.returns-in-Err-clause-rounds
returns-in-Err-clause-rounds g c = ap (λ (face : Face). face.rounds) c.in-Err.ensures.answers.face_is

pub returns-in-Ok-clause-pinned : goal.returns-in-Ok-clause-pinned
returns-in-Ok-clause-pinned g c = kept_call c.in-Ok.ensures.answers

pub returns-in-Err-clause-pinned : goal.returns-in-Err-clause-pinned
returns-in-Err-clause-pinned g c = kept_call c.in-Err.ensures.answers
