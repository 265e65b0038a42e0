use Rattle.std.proofs.Common.{◌≤◌, length, drop}
use Rattle.lethe_memdisk.specs.Undo.{HasNoSync}
use Rattle.lethe_memdisk.proofs.crash.last_sync.Given as goal

abbrev pub invariant-loop-at : goal.invariant-loop-at
invariant-loop-at l = record {
  within : l.at ≤ length l.calls;
  unsynced : HasNoSync (drop l.at l.calls);
}

abbrev pub decreases-loop-at : goal.decreases-loop-at
decreases-loop-at l = l.at
