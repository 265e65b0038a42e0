use Rattle.std.proofs.Common.{◌≡◌, length}
use Rattle.lethe_core.specs.Running.{IsSound}
use Rattle.lethe_core.specs.View.{view_of}
use Rattle.lethe_run.proofs.slots.CallerSlots.hand_back.Given as goal

-- those of the last callers were released, and the disk is as it was
abbrev pub invariant-loop-slots : goal.invariant-loop-slots
invariant-loop-slots g l = record {
  sound : IsSound g.D.Disk.tells (view_of l.engine.core);
  disk : l.engine.core.disk ≡ l.fn.engine.core.disk;
}

abbrev pub decreases-loop-slots : goal.decreases-loop-slots
decreases-loop-slots g l = length l.of.items
