use Rattle.std.proofs.Common.{◌≤◌, ◌-◌}
use Rattle.lethe_memdisk.specs.Held.{calls_of}
use Rattle.lethe_images.proofs.disks.take_calls.Given as goal

abbrev pub invariant-loop-done : goal.invariant-loop-done
invariant-loop-done l = record {
  within : l.done ≤ l.calls;
  taken : l.done ≤ calls_of l.disk;
}

abbrev pub decreases-loop-done : goal.decreases-loop-done
decreases-loop-done l = l.calls - l.done
