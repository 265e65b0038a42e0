use Rattle.std.proofs.Common.{◌≡◌, length}
use Rattle.lethe_core.specs.Running.{IsSound}
use Rattle.lethe_core.specs.View.{view_of}
use Rattle.lethe_run.proofs.slots.Slots.release_all.Given as goal

-- the last ones were released, and the disk is as it was
abbrev pub invariant-loop-slot : goal.invariant-loop-slot
invariant-loop-slot g l = record {
  sound : IsSound g.D.Disk.tells (view_of l.engine.core);
  disk : l.engine.core.disk ≡ l.fn.engine.core.disk;
}

abbrev pub decreases-loop-slot : goal.decreases-loop-slot
decreases-loop-slot g l = length l.held.items
