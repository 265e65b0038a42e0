use Rattle.std.proofs.Common.{inl, ap, ◌∙◌}
use Rattle.lethe_core.specs.View.{Face, view_of}
use Rattle.lethe_engine.specs.Jobs.{IsShortToInstall}
use Rattle.lethe_engine.proofs.Rounds.{flies_now, reason_of_work}
use Rattle.lethe_drive.specs.Moments.{there_of}
use Rattle.lethe_drive.proofs.Certificates.{stands_call}
use Rattle.lethe_drive.proofs.Installing.{install_refused, installed_whole, rest_refused, task_back, theirs_spoilt}
use Rattle.lethe_drive.proofs.Naming.{there_none}
use Rattle.lethe_drive.proofs.Kept.{kept_call, kept_then}
use Rattle.lethe_drive.proofs.working.install_whole.Goals as goal

pub returns-in-Err-clause-step : goal.returns-in-Err-clause-step
returns-in-Err-clause-step g c = λ told config opened h answered stands s known fetches faults snapshots.
    let numbered = c.args.numbered in
    let step = c.in-Err.ensures.step told config opened h answered stands s known in (
      step.0,
      step.1,
      step.2,
      rest_refused g.D.Disk.tells g.D.Disk.ports_fail h (view_of c.args.engine.now.core) s numbered.number fetches faults c.args.jobs.now.begun snapshots numbered.job (view_of c.write_rest.new.engine.core) step.0
          c.write_rest.new.job c.in-Err.why c.write_rest.ensures.task c.write_rest.ensures.number c.write_rest.ensures.round c.in-Err.ensures.refused step.3,
    )

pub returns-in-Ok-clause-step : goal.returns-in-Ok-clause-step
returns-in-Ok-clause-step g c = λ told config opened h answered stands s known fetches faults snapshots.
    let numbered = c.args.numbered in
    let step = c.in_default.ensures.step told config opened h answered stands s known in
    let stood = stands_call c.in-Ok.ensures.answers told config opened h answered step.2 in
    let made = installed_whole g.D.Disk.tells g.D.Disk.ports_fail h (view_of c.args.engine.now.core) s numbered.number fetches faults c.args.jobs.now.begun snapshots numbered.job config opened tt
    (view_of c.write_rest.new.engine.core) (view_of c.install.new.self.core) stood.since c.write_rest.new.job step.0 (there_of c.args.jobs.now) c.write_rest.ensures.task c.write_rest.ensures.number step.1 step.3.done
    (λ at is. (c.in-Ok.ensures.stopped at is).1) step.3.flights (c.in-Ok.ensures.done told step.0) (ap (λ (face : Face). face.flights) c.in-Ok.ensures.answers.face_is)
    c.in-Ok.ensures.pins step.3.pins c.in-Ok.ensures.named (there_none c.args.jobs.now c.requires.none) in
    (made.0, made.1, stood, made.2)

pub install-requires-clause-works : goal.install-requires-clause-works
install-requires-clause-works g c κs within = inl c.in_default.ensures.works

pub returns-in-Err-install-clause-jobs : goal.returns-in-Err-install-clause-jobs
returns-in-Err-install-clause-jobs g c =
    let numbered = c.args.numbered in
    let back = c.in-Err-install.ensures.back in
    theirs_spoilt g.D.Disk.tells (view_of c.install.new.self.core) c.args.jobs.now.begun numbered.number numbered.job c.in-Err-install.job
    (task_back numbered.job c.write_rest.new.job c.in-Err-install.job c.write_rest.ensures.task c.in-Err-install.ensures.handed.0) c.requires.reads (back.0 c.in_default.ensures.works.flies) back.1

pub returns-in-Err-install-clause-step : goal.returns-in-Err-install-clause-step
returns-in-Err-install-clause-step g c = λ told config opened h answered stands s known fetches faults snapshots.
    let numbered = c.args.numbered in
    let step = c.in_default.ensures.step told config opened h answered stands s known in
    let mid = view_of c.write_rest.new.engine.core in
    let whole = c.write_rest.new.job in
    let is = c.in-Err-install.ensures in
    let after = stands_call is.answers told config opened h answered step.2 in
    let not_made =
    install_refused g.D.Disk.tells g.D.Disk.ports_fail h (view_of c.args.engine.now.core) s numbered.number fetches faults c.args.jobs.now.begun snapshots numbered.job told (c.requires.reads told)
    (view_of c.write_rest.new.engine.core) c.write_rest.new.job c.write_rest.ensures.task c.in_default.ensures.works c.in_default.ensures.whole config opened stands.since step.2.since c.write_rest.ensures.faults
    step.0 step.1 step.3.done step.3.flights step.3.retired step.3.pins (view_of c.install.new.self.core) c.in-Err-install.job c.in-Err-install.why after.since is.answers.still is.answers.refused is.answers.face_is
    (let left = is.left in λ i. (left i).items) is.pins
    (task_back numbered.job c.write_rest.new.job c.in-Err-install.job c.write_rest.ensures.task is.handed.0) (is.handed.1 ∙ c.write_rest.ensures.number) (is.handed.2 ∙ c.write_rest.ensures.round) is.back.1
    (reason_of_work mid whole (IsShortToInstall mid whole) (view_of c.install.new.self.core) c.in-Err-install.why (flies_now mid whole c.in_default.ensures.works.flies) is.why) is.drawn in
    (not_made.0, not_made.1, after, not_made.2)

pub returns-in-Ok-clause-rounds : goal.returns-in-Ok-clause-rounds
returns-in-Ok-clause-rounds g c = ap (λ (face : Face). face.rounds) c.in-Ok.ensures.answers.face_is ∙ c.write_rest.ensures.rounds

pub returns-in-Err-install-clause-rounds : goal.returns-in-Err-install-clause-rounds
returns-in-Err-install-clause-rounds g c = ap (λ (face : Face). face.rounds) c.in-Err-install.ensures.answers.face_is ∙ c.write_rest.ensures.rounds

pub returns-in-Err-clause-pinned : goal.returns-in-Err-clause-pinned
returns-in-Err-clause-pinned g c = c.write_rest.ensures.pinned

pub returns-in-Ok-clause-pinned : goal.returns-in-Ok-clause-pinned
returns-in-Ok-clause-pinned g c = λ told. kept_then (view_of c.args.engine.now.core) (view_of c.write_rest.new.engine.core) (view_of c.install.new.self.core) c.write_rest.ensures.pins (c.write_rest.ensures.pinned told) (kept_call c.in-Ok.ensures.answers told)

pub returns-in-Err-install-clause-pinned : goal.returns-in-Err-install-clause-pinned
returns-in-Err-install-clause-pinned g c = λ told. kept_then (view_of c.args.engine.now.core) (view_of c.write_rest.new.engine.core) (view_of c.install.new.self.core) c.write_rest.ensures.pins (c.write_rest.ensures.pinned told) (kept_call c.in-Err-install.ensures.answers told)

pub returns-in-Ok-clause-certificates : goal.returns-in-Ok-clause-certificates
returns-in-Ok-clause-certificates g c = c.in-Ok.ensures.certificates ∙ c.write_rest.ensures.certificates

pub returns-in-Err-install-clause-certificates : goal.returns-in-Err-install-clause-certificates
returns-in-Err-install-clause-certificates g c = c.in-Err-install.ensures.certificates ∙ c.write_rest.ensures.certificates
