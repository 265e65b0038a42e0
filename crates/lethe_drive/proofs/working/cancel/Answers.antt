use Rattle.std.proofs.Common.{◌≡◌, inl, inr, Option, Some, None, sym, ap, ◌∙◌, subst}
use Rattle.std.specs.Prelude.{IfSome}
use Rattle.std.specs.Result.{result_err}
use Rattle.lethe_base.specs.declared.call.Call.TheVariants.{Work}
use Rattle.lethe_core.specs.Asked.{Serves, behind}
use Rattle.lethe_core.specs.Flights.{without}
use Rattle.lethe_core.specs.View.{Face, face_of, view_of}
use Rattle.lethe_engine.proofs.Faces.{given_up_free}
use Rattle.lethe_engine.proofs.Rounds.{cancelled_flying}
use Rattle.lethe_drive.specs.Certificates.{certificates_of}
use Rattle.lethe_drive.specs.Moments.{Going, going_of, moment_of, there_of}
use Rattle.lethe_drive.specs.Steps.{IsThere}
use Rattle.lethe_drive.proofs.Certificates.{none_united, stands_call}
use Rattle.lethe_drive.proofs.Giving.{given, given_up, given_up_rounds, theirs_back, theirs_flies, theirs_none}
use Rattle.lethe_drive.proofs.Naming.{no_such, none_there, other_there, put_back, there_is, there_none}
use Rattle.lethe_drive.proofs.Kept.{kept_call, kept_itself}
use Rattle.lethe_drive.proofs.working.cancel.Goals as goal

pub returns-in_default-clause-jobs : goal.returns-in_default-clause-jobs
returns-in_default-clause-jobs g c = theirs_none g.D.Disk.tells (view_of c.args.engine.now.core) c.args.jobs.now.begun c.take.new.self c.take.ensures.after

pub returns-in_default-clause-step : goal.returns-in_default-clause-step
returns-in_default-clause-step g c = λ told config opened h answered stands s known fetches faults snapshots.
    let view = view_of c.args.engine.now.core in
    let jobs = c.args.jobs.now in
    let number = c.args.number in
    let none : jobs.there ≡ None = sym c.take.ensures.value ∙ c.in_default.is in
    let left : c.take.new.self ≡ jobs.there = c.take.ensures.after ∙ sym none in (
      h,
      s,
      known,
      stands,
      inl (no_such jobs h view s fetches faults number snapshots (IsThere number (moment_of view s fetches faults jobs.begun (there_of jobs) snapshots)) (none_there jobs h view s fetches faults number snapshots none)
          (record jobs { there = c.take.new.self }) (λ i. record jobs { there = left i })),
    )

pub returns-then-numbered-number-clause-jobs : goal.returns-then-numbered-number-clause-jobs
returns-then-numbered-number-clause-jobs g c =
    theirs_back g.D.Disk.tells (view_of c.args.engine.now.core) c.args.jobs.now c.requires.jobs c.in-Some.numbered (sym c.take.ensures.value ∙ c.in-Some.is)

pub returns-then-numbered-number-clause-step : goal.returns-then-numbered-number-clause-step
returns-then-numbered-number-clause-step g c = λ told config opened h answered stands s known fetches faults snapshots.
    let view = view_of c.args.engine.now.core in
    let jobs = c.args.jobs.now in
    let number = c.args.number in
    let there : jobs.there ≡ Some c.in-Some.numbered = sym c.take.ensures.value ∙ c.in-Some.is in (
      h,
      s,
      known,
      stands,
      inl (no_such jobs h view s fetches faults number snapshots (IsThere number (moment_of view s fetches faults jobs.begun (there_of jobs) snapshots))
          (other_there jobs h view s fetches faults number snapshots c.in-Some.numbered there c.if-numbered-number.true) (record jobs { there = Some c.in-Some.numbered }) (put_back jobs c.in-Some.numbered there)),
    )

pub cancel-requires-clause-flies : goal.cancel-requires-clause-flies
cancel-requires-clause-flies g c = λ lifetimes outlive.
    inl (theirs_flies g.D.Disk.tells (view_of c.args.engine.now.core) c.args.jobs.now c.requires.jobs c.in-Some.numbered (sym c.take.ensures.value ∙ c.in-Some.is))

pub returns-clause-jobs : goal.returns-clause-jobs
returns-clause-jobs g c = theirs_none g.D.Disk.tells (view_of c.cancel.new.self.core) c.args.jobs.now.begun c.take.new.self c.take.ensures.after

pub returns-clause-rounds : goal.returns-clause-rounds
returns-clause-rounds g c =
    let old = view_of c.args.engine.now.core in
    let jobs = c.args.jobs.now in
    let numbered = c.in-Some.numbered in
    let flies = theirs_flies g.D.Disk.tells old jobs c.requires.jobs numbered (sym c.take.ensures.value ∙ c.in-Some.is) in
    ap (λ (face : Face). face.rounds) (c.cancel.ensures.answers.face_is ∙ cancelled_flying old numbered.job flies) ∙ given_up_rounds numbered.job.number (face_of old) old.state

pub returns-clause-step : goal.returns-clause-step
returns-clause-step g c = λ told config opened h answered stands s known fetches faults snapshots.
    let old = view_of c.args.engine.now.core in
    let new = view_of c.cancel.new.self.core in
    let jobs = c.args.jobs.now in
    let numbered = c.in-Some.numbered in
    let there : jobs.there ≡ Some numbered = sym c.take.ensures.value ∙ c.in-Some.is in
    let gone = record jobs { there = c.take.new.self } in
    let is = c.cancel.ensures in
    let face = is.answers.face_is ∙ cancelled_flying old numbered.job (theirs_flies g.D.Disk.tells old jobs c.requires.jobs numbered there) in
    let stood = stands_call is.answers told config opened h answered stands in
    let is_given =
    given_up g.D.Disk.tells told config opened h old new s known fetches faults jobs.begun (there_of jobs) (there_of gone) snapshots (there_none gone c.take.ensures.after) c.cancel.result
    stood.since is.answers.still is.answers.refused (is.held told s) (λ may. subst (λ (there : Option Going). IfSome there (λ going. new.flights ≡ without going.own old.flights)) (sym (there_is jobs numbered there))
    (ap (λ (face : Face). face.flights) (face ∙ given_up_free numbered.job.number (face_of old) old.state may)))
    (let left = is.retired in λ i. (left i).items) is.pins is.why is.no_memory is.exhausted (λ at e. (is.stopped at e).0)
    (λ runs full. let last = is.last runs full in (given c.cancel.result last.0, (let same = last.1 in λ i. view_of (same i).core))) in (
      behind h 0 (Serves Work) (result_err c.cancel.result),
      is_given.0,
      is_given.1,
      stood,
      inr (going_of numbered.number numbered.job, (there_is jobs numbered there, c.if-numbered-number.false), c.cancel.result, c.united.ensures, is_given.2),
    )

pub returns-in_default-clause-pinned : goal.returns-in_default-clause-pinned
returns-in_default-clause-pinned g c = λ told. kept_itself (view_of c.args.engine.now.core)

pub returns-then-numbered-number-clause-pinned : goal.returns-then-numbered-number-clause-pinned
returns-then-numbered-number-clause-pinned g c = λ told. kept_itself (view_of c.args.engine.now.core)

pub returns-clause-pinned : goal.returns-clause-pinned
returns-clause-pinned g c = kept_call c.cancel.ensures.answers

pub returns-clause-none : goal.returns-clause-none
returns-clause-none g c = ap certificates_of c.united.ensures ∙ none_united c.cancel.result
