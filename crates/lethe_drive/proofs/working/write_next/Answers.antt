use Rattle.std.proofs.Common.{rules, ◌≡◌, ◌<◌, ◌≤◌, ℕ, All, inl, Some, None, sym, ap, ◌∙◌, subst}
use Rattle.std.proofs.lemmas.List.Elements.{All-contains}
use Rattle.lethe_base.specs.Limits.{max_place, max_time}
use Rattle.lethe_base.specs.declared.pending.Pending.{Pending}
use Rattle.lethe_job.specs.Works.{PlainTask, erases_of}
use Rattle.lethe_core.specs.Running.{IsFlying}
use Rattle.lethe_core.proofs.Flying.{flying_there}
use Rattle.lethe_base.specs.declared.refused.Refused.TheVariants.{Stopped}
use Rattle.lethe_core.specs.View.{Face, View, view_of}
use Rattle.lethe_engine.specs.Jobs.{IsPast}
use Rattle.lethe_engine.proofs.Rounds.{flies_now, reason_of_work}
use Rattle.lethe_drive.proofs.Certificates.{stands_call}
use Rattle.lethe_drive.proofs.Knowing.{known_held, not_stopped, ok_or_err}
use Rattle.lethe_drive.proofs.Paging.{no_page, page_written, refused_paged, unread_paged}
use Rattle.lethe_drive.proofs.Writing.{fewer_left, left_of, none_left, still_works}
use Rattle.lethe_drive.proofs.Kept.{kept_call, kept_itself}
use Rattle.lethe_drive.proofs.working.write_next.Goals as goal

-- the erases of a job in flight have times

pub next_piece-requires-clause-erases : goal.next_piece-requires-clause-erases
next_piece-requires-clause-erases g c κs within =
    let view = view_of c.args.engine.now.core in
    let flies = c.requires.works.flies in
    let there = flying_there c.args.job.now.number view.flights flies.flying flies.is in
    let is = All-contains (IsFlying view.state) view.flights flies.flying c.requires.sound.flies there.0 in
    subst (λ (task : PlainTask). All (λ (erase : Pending). erase.time ≤ max_time) (erases_of task)) (sym flies.task) is.erases

-- the outputs can't be made

pub returns-in_err-piece-clause-step : goal.returns-in_err-piece-clause-step
returns-in_err-piece-clause-step g c = λ told config opened h answered stands s known number fetches faults begun snapshots.
    unread_paged g.D.Disk.tells g.D.Disk.ports_fail h (view_of c.args.engine.now.core) s number fetches faults begun snapshots c.args.job.now c.next_piece.new.self c.next_piece.ensures.task c.next_piece.ensures.number c.next_piece.ensures.round config opened
    told (c.requires.reads told) answered stands known c.from_residual.result c.in_err-piece.field-0.0 (search rules) c.in_err-piece.ensures.unread c.in_err-piece.ensures.err

-- there is a next page

pub write_out-requires-clause-works : goal.write_out-requires-clause-works
write_out-requires-clause-works g c κs within =
    inl (still_works g.D.Disk.tells g.D.Disk.ports_fail c.args.job.now c.next_piece.new.self c.next_piece.ensures.task c.next_piece.ensures.number c.next_piece.ensures.written c.next_piece.ensures.kept c.next_piece.ensures.job
    (view_of c.args.engine.now.core) c.next_piece.ensures.round c.requires.works c.in_ok-piece.ensures.ok)

-- the engine refuses it

pub returns-in_err-write_out-in-Some-clause-step : goal.returns-in_err-write_out-in-Some-clause-step
returns-in_err-write_out-in-Some-clause-step g c = λ told config opened h answered stands s known number fetches faults begun snapshots.
    let refused = c.in_err-write_out-in-Some.ensures in
    let same : c.write_out.new.job.task.value ≡ c.next_piece.new.self.task.value = λ i. (c.write_out.ensures.same.1 i).value in
    let old = view_of c.args.engine.now.core in
    let mid = c.next_piece.new.self in
    let why = c.in_err-write_out-in-Some.field-0.0 in
    let present : IsPast old mid → ⊥ = λ past. flies_now old c.args.job.now c.requires.works.flies (subst (λ (round : ℕ). round < old.rounds) c.next_piece.ensures.round past) in
    let reason = reason_of_work old mid (max_place ≤ old.state.next) (view_of c.write_out.new.self.core) why present refused.why in
    refused_paged g.D.Disk.tells g.D.Disk.ports_fail h (view_of c.args.engine.now.core) s number fetches faults begun snapshots c.args.job.now c.write_out.new.job (same ∙ c.next_piece.ensures.task)
    (c.write_out.ensures.same.3 ∙ c.next_piece.ensures.number) (c.write_out.ensures.same.4 ∙ c.next_piece.ensures.round) told config opened known (view_of c.write_out.new.self.core) c.in_err-write_out-in-Some.field-0.0 refused.answers.refused refused.answers.face_is
    (let left = refused.retired in λ i. (left i).items) refused.pins refused.answers.still
    c.from_residual-in_err-write_out-in-Some.result (search rules) answered (stands_call refused.answers told config opened h answered stands) reason refused.refused

pub returns-in_err-write_out-in-Some-clause-rounds : goal.returns-in_err-write_out-in-Some-clause-rounds
returns-in_err-write_out-in-Some-clause-rounds g c = ap (λ (face : Face). face.rounds) c.in_err-write_out-in-Some.ensures.answers.face_is

pub returns-in_err-write_out-in-Some-clause-number : goal.returns-in_err-write_out-in-Some-clause-number
returns-in_err-write_out-in-Some-clause-number g c = c.write_out.ensures.same.3 ∙ c.next_piece.ensures.number

pub returns-in_err-write_out-in-Some-clause-round : goal.returns-in_err-write_out-in-Some-clause-round
returns-in_err-write_out-in-Some-clause-round g c = c.write_out.ensures.same.4 ∙ c.next_piece.ensures.round

-- it is written

pub returns-in_ok-write_out-in-Some-clause-rounds : goal.returns-in_ok-write_out-in-Some-clause-rounds
returns-in_ok-write_out-in-Some-clause-rounds g c = ap (λ (face : Face). face.rounds) c.in_ok-write_out-in-Some.ensures.answers.face_is

pub returns-in_ok-write_out-in-Some-clause-number : goal.returns-in_ok-write_out-in-Some-clause-number
returns-in_ok-write_out-in-Some-clause-number g c = c.write_out.ensures.same.3 ∙ c.next_piece.ensures.number

pub returns-in_ok-write_out-in-Some-clause-round : goal.returns-in_ok-write_out-in-Some-clause-round
returns-in_ok-write_out-in-Some-clause-round g c = c.write_out.ensures.same.4 ∙ c.next_piece.ensures.round

pub returns-in_ok-write_out-in-Some-clause-fewer : goal.returns-in_ok-write_out-in-Some-clause-fewer
returns-in_ok-write_out-in-Some-clause-fewer g c = λ done.
    let mid = c.next_piece.new.self in
    let next = c.in_ok-piece.field-0 in
    let is : next ≡ Some c.in-Some.piece = cc in
    let asked = c.in_ok-piece.ensures in
    fewer_left g.D.Disk.tells g.D.Disk.ports_fail c.args.job.now mid c.next_piece.ensures.task c.next_piece.ensures.number c.next_piece.ensures.written c.next_piece.ensures.kept c.next_piece.ensures.job c.write_out.new.job asked.made
    (left_of mid.made next c.in-Some.piece c.args.job.now.written is asked.left) c.write_out.ensures.same.0 c.in_ok-write_out-in-Some.ensures.written

pub returns-in_ok-write_out-in-Some-clause-step : goal.returns-in_ok-write_out-in-Some-clause-step
returns-in_ok-write_out-in-Some-clause-step g c = λ told config opened h answered stands s known number fetches faults begun snapshots.
    let old : View = view_of c.args.engine.now.core in
    let new : View = view_of c.write_out.new.self.core in
    let mid = c.next_piece.new.self in
    let next = c.in_ok-piece.field-0 in
    let is : next ≡ Some c.in-Some.piece = cc in
    let asked = c.in_ok-piece.ensures in
    let written = c.in_ok-write_out-in-Some.ensures in
    let stood = stands_call written.answers told config opened h answered stands in
    let runs = not_stopped old.state.stopped (λ at e. ok_or_err c.in_ok-write_out-in-Some.field-0 (Stopped at) (written.stopped at e).0) in (
      s,
      known_held config opened h new stood.since s (written.held told s (known.held runs)),
      stood,
      page_written g.D.Disk.tells g.D.Disk.ports_fail h old s number fetches faults begun snapshots c.args.job.now mid c.next_piece.ensures.task c.next_piece.ensures.number c.next_piece.ensures.round told (c.requires.reads told) c.requires.works
          c.next_piece.ensures.written asked.made c.next_piece.ensures.job new c.write_out.new.job (λ i. (c.write_out.ensures.same.1 i).value) c.write_out.ensures.same.3 c.write_out.ensures.same.4 written.works.asked written.written
          (left_of mid.made next c.in-Some.piece c.args.job.now.written is asked.left) written.answers.face_is (let left = written.retired in λ i. (left i).items) written.pins (written.page told),
    )

-- none is left

pub returns-in-None-clause-works : goal.returns-in-None-clause-works
returns-in-None-clause-works g c =
    still_works g.D.Disk.tells g.D.Disk.ports_fail c.args.job.now c.next_piece.new.self c.next_piece.ensures.task c.next_piece.ensures.number c.next_piece.ensures.written c.next_piece.ensures.kept c.next_piece.ensures.job
    (view_of c.args.engine.now.core) c.next_piece.ensures.round c.requires.works c.in_ok-piece.ensures.ok

pub returns-in-None-clause-step : goal.returns-in-None-clause-step
returns-in-None-clause-step g c = λ told config opened h answered stands s known number fetches faults begun snapshots.
    let old : View = view_of c.args.engine.now.core in
    let mid = c.next_piece.new.self in
    let next = c.in_ok-piece.field-0 in
    let is : next ≡ None = cc in
    let asked = c.in_ok-piece.ensures in (
      s,
      known,
      stands,
      no_page g.D.Disk.tells g.D.Disk.ports_fail h old s number fetches faults begun snapshots c.args.job.now mid c.next_piece.ensures.task c.next_piece.ensures.number c.next_piece.ensures.round told (c.requires.reads told) c.requires.works c.next_piece.ensures.written asked.made
          c.next_piece.ensures.job asked.ok (none_left mid.made next c.args.job.now.written is asked.left),
    )

-- What pins name stays

pub returns-in_err-piece-clause-pinned : goal.returns-in_err-piece-clause-pinned
returns-in_err-piece-clause-pinned g c = λ told. kept_itself (view_of c.args.engine.now.core)

pub returns-in_err-write_out-in-Some-clause-pinned : goal.returns-in_err-write_out-in-Some-clause-pinned
returns-in_err-write_out-in-Some-clause-pinned g c = kept_call c.in_err-write_out-in-Some.ensures.answers

pub returns-in_err-write_out-in-Some-clause-pins : goal.returns-in_err-write_out-in-Some-clause-pins
returns-in_err-write_out-in-Some-clause-pins g c = c.in_err-write_out-in-Some.ensures.pins

pub returns-in_ok-write_out-in-Some-clause-pinned : goal.returns-in_ok-write_out-in-Some-clause-pinned
returns-in_ok-write_out-in-Some-clause-pinned g c = kept_call c.in_ok-write_out-in-Some.ensures.answers

pub returns-in_ok-write_out-in-Some-clause-pins : goal.returns-in_ok-write_out-in-Some-clause-pins
returns-in_ok-write_out-in-Some-clause-pins g c = c.in_ok-write_out-in-Some.ensures.pins

pub returns-in-None-clause-pinned : goal.returns-in-None-clause-pinned
returns-in-None-clause-pinned g c = λ told. kept_itself (view_of c.args.engine.now.core)
