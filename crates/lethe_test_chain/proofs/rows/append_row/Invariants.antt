use Rattle.std.proofs.Common.{◌≡◌, ◌+◌, ◌*◌}
use Rattle.lethe_memdisk.specs.Held.{calls_of, seen_of}
use Rattle.lethe_chain.specs.Chains.{Waits}
use Rattle.lethe_test_chain.specs.declared.disks.TheConstants.{SEGMENT}
use Rattle.lethe_test_chain.proofs.rows.append_row.Given as goal

abbrev pub invariant-loop-waiting : goal.invariant-loop-waiting
invariant-loop-waiting l = record {
  waits : Waits (seen_of l.disk) SEGMENT l.at l.end l.waiting;
  calls : calls_of l.disk + 1 ≡ calls_of l.fn.disk + 3 * l.waiting;
}
