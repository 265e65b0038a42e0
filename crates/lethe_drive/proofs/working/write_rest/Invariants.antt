use Rattle.std.proofs.Common.{◌≡◌, ◌≤◌, ◌⊎◌}
use Rattle.std.specs.Prelude.{IsSome}
use Rattle.lethe_core.specs.Jobs.{IsAtWork}
use Rattle.lethe_core.specs.Running.{IsSound}
use Rattle.lethe_core.specs.View.{view_of}
use Rattle.lethe_drive.specs.Driving.{IsPinnedKept, pages_left}
use Rattle.lethe_drive.proofs.Resting.{Rests}
use Rattle.lethe_drive.proofs.working.write_rest.Given as goal

-- each turn so far wrote a page
abbrev pub invariant-loop : goal.invariant-loop
invariant-loop g l = record {
  sound : IsSound g.D.Disk.tells (view_of l.engine.core);
  works : IsAtWork g.D.Disk.tells (view_of l.engine.core) l.job;
  task : l.job.task.value ≡ l.fn.job.task.value;
  number : l.job.number ≡ l.fn.job.number;
  round : l.job.round ≡ l.fn.job.round;
  rounds : l.engine.core.begun.rounds ≡ l.fn.engine.core.begun.rounds;
  faults : g.D.Disk.faults l.fn.engine.core.disk ≤ g.D.Disk.faults l.engine.core.disk;
  port : (l.job.port ≡ l.fn.job.port) ⊎ IsSome l.job.made;
  pins : l.engine.core.pins ≡ l.fn.engine.core.pins;
  pinned : g.D.Disk.tells → IsPinnedKept (view_of l.fn.engine.core) (view_of l.engine.core);
  certificates : l.engine.certificates ≡ l.fn.engine.certificates;
  rests : Rests g.D.Disk.tells l.fn.job.number (view_of l.fn.engine.core) (view_of l.engine.core);
}

abbrev pub decreases-loop : goal.decreases-loop
decreases-loop g l = pages_left l.job
