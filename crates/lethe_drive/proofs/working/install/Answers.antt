use Rattle.std.proofs.Common.{◌≡◌, inl, None, Some, sym, ap, ◌∙◌}
use Rattle.std.specs.Result.{result_err}
use Rattle.lethe_base.specs.declared.call.Call.TheVariants.{Work}
use Rattle.lethe_core.specs.Asked.{Serves, behind}
use Rattle.lethe_core.specs.View.{view_of}
use Rattle.lethe_drive.specs.Certificates.{certificates_of}
use Rattle.lethe_drive.specs.Moments.{Going, moment_of, there_of}
use Rattle.lethe_drive.specs.Steps.{IsAsked}
use Rattle.lethe_drive.proofs.Certificates.{none_united}
use Rattle.lethe_drive.proofs.Giving.{theirs_asked}
use Rattle.lethe_drive.proofs.Installing.{asked_to_install, not_asked}
use Rattle.lethe_drive.proofs.Naming.{none_there, other_there, refused_there}
use Rattle.lethe_drive.proofs.Kept.{kept_itself}
use Rattle.lethe_drive.proofs.working.install.Goals as goal
use Rattle.lethe_drive.proofs.working.install.Goals.{then-numbered-number-via-then-numbered-number, then-numbered-number-via-else-numbered-number+then-is_refused}

pub returns-in_default-clause-step : goal.returns-in_default-clause-step
returns-in_default-clause-step g c = λ told config opened h answered stands s known fetches faults snapshots.
    let view = view_of c.args.engine.now.core in
    let jobs = c.args.jobs.now in
    let none : jobs.there ≡ None = sym c.take.ensures.value ∙ c.in_default.is in (
      h,
      s,
      known,
      stands,
      inl (not_asked jobs h view s fetches faults c.args.number snapshots (λ going asked. none_there jobs h view s fetches faults c.args.number snapshots none going asked.0) c.take.new.self (none ∙ sym c.take.ensures.after)),
    )

pub returns-then-numbered-number-clause-step : goal.returns-then-numbered-number-clause-step
returns-then-numbered-number-clause-step g c = λ told config opened h answered stands s known fetches faults snapshots.
    let view = view_of c.args.engine.now.core in
    let jobs = c.args.jobs.now in
    let number = c.args.number in
    let numbered = c.in-Some.numbered in
    let there : jobs.there ≡ Some numbered = sym c.take.ensures.value ∙ c.in-Some.is in
    let never : (going : Going) → IsAsked number (moment_of view s fetches faults jobs.begun (there_of jobs) snapshots) going → ⊥ = elim c.then-numbered-number.branch [
      | then-numbered-number-via-then-numbered-number w ↦ λ going asked. other_there jobs h view s fetches faults number snapshots numbered there w.if-numbered-number.true going asked.0
      | then-numbered-number-via-else-numbered-number+then-is_refused w ↦ refused_there jobs h view s fetches faults number snapshots numbered there (sym w.is_refused.ensures ∙ w.if-is_refused.true)
    ] in
    (h, s, known, stands, inl (not_asked jobs h view s fetches faults number snapshots never (Some numbered) there))

pub install_whole-requires-clause-works : goal.install_whole-requires-clause-works
install_whole-requires-clause-works g c = λ lifetimes outlive.
    theirs_asked g.D.Disk.tells (view_of c.args.engine.now.core) c.args.jobs.now c.requires.jobs c.in-Some.numbered (sym c.take.ensures.value ∙ c.in-Some.is) (sym c.is_refused.ensures ∙ c.if-is_refused.false)

pub returns-clause-step : goal.returns-clause-step
returns-clause-step g c = λ told config opened h answered stands s known fetches faults snapshots.
    let new = view_of c.install_whole.new.engine.core in
    let jobs = c.args.jobs.now in
    let after = c.install_whole.new.jobs in
    let numbered = c.in-Some.numbered in
    let result = c.install_whole.result in
    let step = c.install_whole.ensures.step told config opened h answered stands s known fetches faults snapshots in (
      behind h 0 (Serves Work) (result_err result),
      step.0,
      step.1,
      step.2,
      asked_to_install jobs g.D.Disk.ports_fail h (behind h 0 (Serves Work) (result_err result)) (view_of c.args.engine.now.core) s fetches faults c.args.number snapshots numbered result c.united.result
          (moment_of new step.0 fetches faults after.begun (there_of after) snapshots) (sym c.take.ensures.value ∙ c.in-Some.is) c.if-numbered-number.false (sym c.is_refused.ensures ∙ c.if-is_refused.false) c.united.ensures step.3,
    )

pub returns-in_default-clause-pinned : goal.returns-in_default-clause-pinned
returns-in_default-clause-pinned g c = λ told. kept_itself (view_of c.args.engine.now.core)

pub returns-then-numbered-number-clause-pinned : goal.returns-then-numbered-number-clause-pinned
returns-then-numbered-number-clause-pinned g c = λ told. kept_itself (view_of c.args.engine.now.core)

pub returns-clause-pinned : goal.returns-clause-pinned
returns-clause-pinned g c = c.install_whole.ensures.pinned

pub returns-clause-none : goal.returns-clause-none
returns-clause-none g c = ap certificates_of c.united.ensures ∙ none_united c.install_whole.result
