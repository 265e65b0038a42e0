use Rattle.std.proofs.Common.{inl, ◌≤◌, All, sym, subst}
use Rattle.std.proofs.lemmas.List.Elements.{All-contains}
use Rattle.lethe_base.specs.Limits.{max_time}
use Rattle.lethe_base.specs.declared.pending.Pending.{Pending}
use Rattle.lethe_job.specs.Works.{PlainTask, erases_of}
use Rattle.lethe_core.specs.Running.{IsFlying}
use Rattle.lethe_core.specs.View.{view_of}
use Rattle.lethe_core.proofs.Flying.{flying_there}
use Rattle.lethe_drive.proofs.Writing.{still_works}
use Rattle.lethe_test_objects.proofs.flight.write_one.Goals as goal

-- the erases of a job in flight have times

pub next_piece-requires-clause-erases : goal.next_piece-requires-clause-erases
next_piece-requires-clause-erases g c κs within =
    let view = view_of c.args.engine.now.core in
    let flies = c.requires.works.flies in
    let there = flying_there c.args.job.now.number view.flights flies.flying flies.is in
    let is = All-contains (IsFlying view.state) view.flights flies.flying c.requires.sound.flies there.0 in
    subst (λ (task : PlainTask). All (λ (erase : Pending). erase.time ≤ max_time) (erases_of task)) (sym flies.task) is.erases

pub write_out-requires-clause-works : goal.write_out-requires-clause-works
write_out-requires-clause-works g c κs within =
    inl (still_works g.D.Disk.tells g.D.Disk.ports_fail c.args.job.now c.next_piece.new.self c.next_piece.ensures.task c.next_piece.ensures.number c.next_piece.ensures.written c.next_piece.ensures.kept c.next_piece.ensures.job
    (view_of c.args.engine.now.core) c.next_piece.ensures.round c.requires.works c.in_ok-piece.ensures.ok)
