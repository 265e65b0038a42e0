use Rattle.std.proofs.Common.{None, refl, ap, arith}
use Rattle.std.specs.Result.{result_err}
use Rattle.lethe_base.specs.declared.call.Call.TheVariants as call
use Rattle.lethe_core.specs.Asked.{Makes, behind}
use Rattle.lethe_core.specs.View.{Face, view_of}
use Rattle.lethe_drive.specs.Moments.{there_of}
use Rattle.lethe_drive.proofs.Certificates.{listed_tick}
use Rattle.lethe_drive.proofs.Giving.{theirs_on}
use Rattle.lethe_drive.proofs.Kept.{kept_call}
use Rattle.lethe_drive.proofs.Ticking.{Tested, face_stays, not_passed, passed, tick_ends, tick_stays}
use Rattle.lethe_drive.proofs.answering.tick.Goals as goal
use Rattle.lethe_drive.proofs.answering.tick.Goals.{After-tick-answer}

-- what its tests answer
tested : (g : _) (c : After-tick-answer g) → Tested c.args.to (view_of c.args.engine.now.core) (view_of c.tick-answer.new.self.core) c.tick-answer.result
tested g c =
    let is = c.tick-answer.ensures in
    record {
      stops = λ at e. let first = is.stopped at e in let same = first.1 in (first.0, λ i. view_of (same i).core);
      backwards = λ runs behind. let first = is.backwards runs behind in let same = first.1 in (first.0, λ i. view_of (same i).core);
      last = λ runs forward none. let first = is.exhausted runs forward none in let same = first.1 in (first.0, λ i. view_of (same i).core);
      pinned = λ may pin limit barred reached. let first = is.pinned may pin limit barred reached in let same = first.1 in (first.0, λ i. view_of (same i).core);
    }

-- The round ends

pub returns-then-rounds-clause-step : goal.returns-then-rounds-clause-step
returns-then-rounds-clause-step g c = λ told config opened h answered stands s known snapshots.
    let to = c.args.to in
    let old = view_of c.args.engine.now.core in
    let new = view_of c.tick-answer.new.self.core in
    let jobs = c.args.jobs.now in
    let result = c.tick-answer.result in
    let is = c.tick-answer.ensures in
    let face = is.answers.face_is in
    let stood = is.certified told config opened h answered stands 0 in
    let many = c.if-rounds.true in
    let all = passed to old new face (omega (arith, many, c.rounds.ensures, c.rounds-rounds.ensures)) in
    let made =
    tick_ends g.D.Disk.tells g.D.Disk.ports_fail told to config opened h old new s known (g.D.Disk.fetches c.args.port.now) (g.D.Disk.fetches c.tick-answer.new.port) (g.D.Disk.port_faults c.args.port.now)
    (g.D.Disk.port_faults c.tick-answer.new.port) jobs.begun (there_of jobs) None snapshots stands.since face is.pins all refl result (tested g (goal.at.returns-then-rounds-clause-step g c).After-tick-answer) stood.since is.answers.still
    is.answers.refused is.place (is.done told s) is.named is.why is.due (is.is_true told config opened h stands.since 0) in
    (behind h 0 (Makes (call.Tick to)) (result_err result), made.0, made.1, stood, made.2)

-- It goes on

pub returns-else-rounds-clause-jobs : goal.returns-else-rounds-clause-jobs
returns-else-rounds-clause-jobs g c =
    let old = view_of c.args.engine.now.core in
    let new = view_of c.tick-answer.new.self.core in
    let face = c.tick-answer.ensures.answers.face_is in
    let few = c.if-rounds.false in
    let stays = face_stays c.args.to old new face (not_passed c.args.to old new face (omega (arith, few, c.rounds.ensures, c.rounds-rounds.ensures))) in
    theirs_on g.D.Disk.tells old new c.args.jobs.now (ap (λ (face : Face). face.flights) stays) (ap (λ (face : Face). face.rounds) stays) c.requires.jobs

pub returns-else-rounds-clause-step : goal.returns-else-rounds-clause-step
returns-else-rounds-clause-step g c = λ told config opened h answered stands s known snapshots.
    let to = c.args.to in
    let old = view_of c.args.engine.now.core in
    let new = view_of c.tick-answer.new.self.core in
    let jobs = c.args.jobs.now in
    let result = c.tick-answer.result in
    let is = c.tick-answer.ensures in
    let face = is.answers.face_is in
    let stood = is.certified told config opened h answered stands 0 in
    let few = c.if-rounds.false in
    let not = not_passed to old new face (omega (arith, few, c.rounds.ensures, c.rounds-rounds.ensures)) in
    let made =
    tick_stays g.D.Disk.tells g.D.Disk.ports_fail told to config opened h old new s known (g.D.Disk.fetches c.args.port.now) (g.D.Disk.fetches c.tick-answer.new.port) (g.D.Disk.port_faults c.args.port.now)
    (g.D.Disk.port_faults c.tick-answer.new.port) jobs.begun (there_of jobs) (there_of jobs) snapshots stands.since face is.pins result (tested g (goal.at.returns-else-rounds-clause-step g c).After-tick-answer)
    c.requires.sound.writable.count not refl in
    (behind h 0 (Makes (call.Tick to)) (result_err result), made.0, made.1, stood, made.2)

pub returns-then-rounds-clause-pinned : goal.returns-then-rounds-clause-pinned
returns-then-rounds-clause-pinned g c = kept_call c.tick-answer.ensures.answers

pub returns-else-rounds-clause-pinned : goal.returns-else-rounds-clause-pinned
returns-else-rounds-clause-pinned g c = kept_call c.tick-answer.ensures.answers

pub returns-then-rounds-clause-certificates : goal.returns-then-rounds-clause-certificates
returns-then-rounds-clause-certificates g c = listed_tick c.args.engine.now.certificates.items c.tick-answer.new.self.certificates.items c.tick-answer.result c.tick-answer.ensures.kept

pub returns-else-rounds-clause-certificates : goal.returns-else-rounds-clause-certificates
returns-else-rounds-clause-certificates g c = listed_tick c.args.engine.now.certificates.items c.tick-answer.new.self.certificates.items c.tick-answer.result c.tick-answer.ensures.kept
