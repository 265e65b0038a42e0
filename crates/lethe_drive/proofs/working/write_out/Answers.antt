use Rattle.std.proofs.Common.{◌≡◌, inl, inr, Option, Some, sym, ap, subst, ◌∙◌}
use Rattle.std.specs.Result.{result_err}
use Rattle.lethe_base.specs.declared.call.Call.TheVariants.{Work}
use Rattle.lethe_core.specs.Asked.{Serves, behind}
use Rattle.lethe_core.specs.View.{view_of}
use Rattle.lethe_drive.specs.Answers.{IsWriteOut}
use Rattle.lethe_drive.specs.Certificates.{certificates_of}
use Rattle.lethe_drive.specs.Moments.{Going, going_of, moment_of, there_of}
use Rattle.lethe_drive.specs.Steps.{IsAsked}
use Rattle.lethe_drive.proofs.Certificates.{none_flagged}
use Rattle.lethe_drive.proofs.Giving.{theirs_asked, theirs_called, theirs_sound}
use Rattle.lethe_drive.proofs.Naming.{no_such, none_there, other_there, put_back, refused_there, there_is}
use Rattle.lethe_drive.proofs.Kept.{kept_itself}
use Rattle.lethe_drive.proofs.working.write_out.Goals as goal
use Rattle.lethe_drive.proofs.working.write_out.Goals.{in_default-via-in-Some+then-numbered-number+else-not-is_refused, in_default-via-in-Some+else-numbered-number, in_default-via-in_default}

pub write_next-requires-clause-works : goal.write_next-requires-clause-works
write_next-requires-clause-works g c = λ lifetimes outlive.
    theirs_asked g.D.Disk.tells (view_of c.args.engine.now.core) c.args.jobs.now c.requires.jobs c.in-Some.numbered c.in-Some.is (sym c.is_refused.ensures ∙ c.if-not-is_refused.true)

pub write_next-requires-clause-reads : goal.write_next-requires-clause-reads
write_next-requires-clause-reads g c = λ lifetimes outlive.
    theirs_sound g.D.Disk.tells (view_of c.args.engine.now.core) c.args.jobs.now c.requires.jobs c.in-Some.numbered c.in-Some.is

pub returns-in-Some-clause-jobs : goal.returns-in-Some-clause-jobs
returns-in-Some-clause-jobs g c =
    let is = c.write_next.ensures in
    theirs_called g.D.Disk.tells (view_of c.args.engine.now.core) c.args.jobs.now c.requires.jobs c.in-Some.numbered c.in-Some.is (view_of c.write_next.new.engine.core) c.write_next.new.job c.write_next.result
    is.flies is.refused is.works is.task

pub returns-in-Some-clause-step : goal.returns-in-Some-clause-step
returns-in-Some-clause-step g c = λ told config opened h answered stands s known fetches faults snapshots.
    let old = view_of c.args.engine.now.core in
    let new = view_of c.write_next.new.engine.core in
    let jobs = c.args.jobs.now in
    let numbered = c.in-Some.numbered in
    let going : Going = going_of numbered.number numbered.job in
    let result = c.write_next.result in
    let there = there_is jobs numbered c.in-Some.is in
    let step = c.write_next.ensures.step told config opened h answered stands s known numbered.number fetches faults jobs.begun snapshots in (
      behind h 0 (Serves Work) (result_err result),
      step.0,
      step.1,
      step.2,
      inr (
        going,
        ((there, c.if-numbered-number.true), (sym c.is_refused.ensures ∙ c.if-not-is_refused.true)),
        result,
        c.flagged.ensures,
        subst (λ (o : Option Going). IsWriteOut g.D.Disk.ports_fail going h (moment_of old s fetches faults jobs.begun o snapshots) result (behind h 0 (Serves Work) (result_err result))
            (moment_of new step.0 fetches faults jobs.begun (Some (going_of numbered.number c.write_next.new.job)) snapshots)) (sym there) step.3,
      ),
    )

pub returns-in_default-clause-step : goal.returns-in_default-clause-step
returns-in_default-clause-step g c = λ told config opened h answered stands s known fetches faults snapshots.
    let view = view_of c.args.engine.now.core in
    let jobs = c.args.jobs.now in
    let number = c.args.number in
    let none : (going : Going) → IsAsked number (moment_of view s fetches faults jobs.begun (there_of jobs) snapshots) going → ⊥ = elim c.in_default.branch [
      | in_default-via-in-Some+then-numbered-number+else-not-is_refused w ↦ refused_there jobs h view s fetches faults number snapshots w.in-Some.numbered w.in-Some.is (sym w.is_refused.ensures ∙ w.if-not-is_refused.false)
      | in_default-via-in-Some+else-numbered-number w ↦ λ going asked. other_there jobs h view s fetches faults number snapshots w.in-Some.numbered w.in-Some.is w.if-numbered-number.false going asked.0
      | in_default-via-in_default w ↦ λ going asked. none_there jobs h view s fetches faults number snapshots w.in_default.is going asked.0
    ] in
    let same : c.in_default.jobs ≡ jobs = elim c.in_default.branch [
      | in_default-via-in-Some+then-numbered-number+else-not-is_refused w ↦ w.jobs-is ∙ put_back jobs w.in-Some.numbered w.in-Some.is
      | in_default-via-in-Some+else-numbered-number w ↦ w.jobs-is ∙ put_back jobs w.in-Some.numbered w.in-Some.is
      | in_default-via-in_default w ↦ w.jobs-is
    ] in
    (h, s, known, stands, inl (no_such jobs h view s fetches faults number snapshots (IsAsked number (moment_of view s fetches faults jobs.begun (there_of jobs) snapshots)) none c.in_default.jobs same))

pub returns-in-Some-clause-pinned : goal.returns-in-Some-clause-pinned
returns-in-Some-clause-pinned g c = c.write_next.ensures.pinned

pub returns-in_default-clause-pinned : goal.returns-in_default-clause-pinned
returns-in_default-clause-pinned g c = λ told. kept_itself (view_of c.args.engine.now.core)

pub returns-in-Some-clause-none : goal.returns-in-Some-clause-none
returns-in-Some-clause-none g c = ap certificates_of c.flagged.ensures ∙ none_flagged c.write_next.result
