use Rattle.std.proofs.Common.{◌≤◌, ◌+◌}
use Rattle.lethe_memdisk.specs.Held.{calls_of}
use Rattle.lethe_test_disks.proofs.memdisk.take_all.Given as goal

abbrev pub invariant-loop-step : goal.invariant-loop-step
invariant-loop-step g l = calls_of l.fn.disk + l.calls ≤ calls_of l.disk
