use Rattle.std.proofs.Common.{rules, ◌≡◌, inl, inr, true, false, Ok, Err, refl, sym, ap, ◌∙◌, subst, arith}
use Rattle.lethe_job.specs.Tasks.{AreSound}
use Rattle.lethe_job.specs.Works.{PlainTask, inputs_in, plain_task}
use Rattle.lethe_core.specs.View.{view_of}
use Rattle.lethe_drive.proofs.Resting.{Comes, Turns, all_written, rests_first, rests_on, turn_refused}
use Rattle.lethe_drive.proofs.Kept.{kept_itself, kept_then}
use Rattle.lethe_drive.proofs.working.write_rest.Goals as goal

pub write_next-requires-clause-reads : goal.write_next-requires-clause-reads
write_next-requires-clause-reads g c κs within = λ told.
    let task : plain_task c.args.job.now.task.value ≡ plain_task c.loop.job.task.value = ap plain_task (sym c.loop.invariant.task) in
    subst (λ (task : PlainTask). AreSound (inputs_in task)) task (c.requires.reads told)

pub loop-init : goal.loop-init
loop-init g c = record {
  sound = c.requires.sound;
  works = c.requires.works;
  task = refl;
  number = refl;
  round = refl;
  rounds = refl;
  faults = omega arith;
  port = inl refl;
  pins = refl;
  pinned = λ told. kept_itself (view_of c.args.engine.now.core);
  certificates = refl;
  rests = rests_first g.D.Disk.tells (view_of c.args.engine.now.core) c.args.job.now c.requires.works;
}

pub loop-preserved : goal.loop-preserved
loop-preserved g c =
    let ok : c.write_next.result ≡ Ok true = c.in_ok-write_next.was ∙ ap Ok c.if-branch.true in
    record {
      sound = c.write_next.ensures.sound;
      works = c.in_ok-write_next.ensures.works;
      task = c.write_next.ensures.task ∙ c.loop.invariant.task;
      number = c.write_next.ensures.number ∙ c.loop.invariant.number;
      round = c.write_next.ensures.round ∙ c.loop.invariant.round;
      rounds = c.write_next.ensures.rounds ∙ c.loop.invariant.rounds;
      faults = let so_far = c.loop.invariant.faults in let more = c.write_next.ensures.faults in omega arith;
      port = inr c.in_ok-write_next.ensures.made;
      pins = c.write_next.ensures.pins ∙ c.loop.invariant.pins;
      pinned = λ told. kept_then (view_of c.args.engine.now.core) (view_of c.loop.engine.core) (view_of c.write_next.new.engine.core) c.loop.invariant.pins (c.loop.invariant.pinned told) (c.write_next.ensures.pinned told);
      certificates = c.write_next.ensures.certificates ∙ c.loop.invariant.certificates;
      rests = rests_on g.D.Disk.tells g.D.Disk.ports_fail (view_of c.args.engine.now.core) (view_of c.loop.engine.core) (view_of c.write_next.new.engine.core) c.loop.job c.write_next.new.job c.args.job.now.number c.loop.invariant.number true c.loop.invariant.rests
          (subst (Turns g.D.Disk.tells g.D.Disk.ports_fail (view_of c.args.engine.now.core) (view_of c.loop.engine.core) (view_of c.write_next.new.engine.core) c.loop.job c.write_next.new.job c.args.job.now.number) ok c.write_next.ensures.step);
    }

pub returns-in_err-write_next-clause-step : goal.returns-in_err-write_next-clause-step
returns-in_err-write_next-clause-step g c =
    let why = c.in_err-write_next.field-0.0 in
    let refusal : c.from_residual.result ≡ Err why = search rules in
    subst (Comes g.D.Disk.tells g.D.Disk.ports_fail (view_of c.args.engine.now.core) (view_of c.loop.engine.core) (view_of c.write_next.new.engine.core) c.loop.job c.write_next.new.job c.args.job.now.number (g.D.Disk.port_faults c.args.job.now.port)) (sym refusal)
    (turn_refused g.D.Disk.tells g.D.Disk.ports_fail (view_of c.args.engine.now.core) (view_of c.loop.engine.core) (view_of c.write_next.new.engine.core) c.loop.job c.write_next.new.job c.args.job.now.number c.args.job.now why
    c.loop.invariant.rests c.in_err-write_next.ensures.step c.loop.invariant.faults c.in_err-write_next.ensures.drawn c.loop.invariant.port c.in_err-write_next.ensures.read)

pub returns-clause-step : goal.returns-clause-step
returns-clause-step g c =
    let none : c.write_next.result ≡ Ok false = c.in_ok-write_next.was ∙ ap Ok c.if-branch.false in
    all_written g.D.Disk.tells g.D.Disk.ports_fail (view_of c.args.engine.now.core) (view_of c.loop.engine.core) (view_of c.write_next.new.engine.core) c.loop.job c.write_next.new.job c.args.job.now.number (g.D.Disk.port_faults c.args.job.now.port)
    (rests_on g.D.Disk.tells g.D.Disk.ports_fail (view_of c.args.engine.now.core) (view_of c.loop.engine.core) (view_of c.write_next.new.engine.core) c.loop.job c.write_next.new.job c.args.job.now.number c.loop.invariant.number false c.loop.invariant.rests
    (subst (Turns g.D.Disk.tells g.D.Disk.ports_fail (view_of c.args.engine.now.core) (view_of c.loop.engine.core) (view_of c.write_next.new.engine.core) c.loop.job c.write_next.new.job c.args.job.now.number) none c.write_next.ensures.step))

pub returns-in_err-write_next-clause-pinned : goal.returns-in_err-write_next-clause-pinned
returns-in_err-write_next-clause-pinned g c = λ told. kept_then (view_of c.args.engine.now.core) (view_of c.loop.engine.core) (view_of c.write_next.new.engine.core) c.loop.invariant.pins (c.loop.invariant.pinned told) (c.write_next.ensures.pinned told)

pub returns-in_err-write_next-clause-pins : goal.returns-in_err-write_next-clause-pins
returns-in_err-write_next-clause-pins g c = c.write_next.ensures.pins ∙ c.loop.invariant.pins

pub returns-clause-pinned : goal.returns-clause-pinned
returns-clause-pinned g c = λ told. kept_then (view_of c.args.engine.now.core) (view_of c.loop.engine.core) (view_of c.write_next.new.engine.core) c.loop.invariant.pins (c.loop.invariant.pinned told) (c.write_next.ensures.pinned told)

pub returns-clause-pins : goal.returns-clause-pins
returns-clause-pins g c = c.write_next.ensures.pins ∙ c.loop.invariant.pins

pub returns-in_err-write_next-clause-certificates : goal.returns-in_err-write_next-clause-certificates
returns-in_err-write_next-clause-certificates g c = c.write_next.ensures.certificates ∙ c.loop.invariant.certificates

pub returns-clause-certificates : goal.returns-clause-certificates
returns-clause-certificates g c = c.write_next.ensures.certificates ∙ c.loop.invariant.certificates
