use Rattle.std.proofs.Common.{◌≤◌, ◌-◌, vec_len}
use Rattle.lethe_dirdisk.proofs.length.read_front.Given as goal

abbrev pub invariant-loop-bytes : goal.invariant-loop-bytes
invariant-loop-bytes l = vec_len l.bytes ≤ l.fn.len

abbrev pub decreases-loop-bytes : goal.decreases-loop-bytes
decreases-loop-bytes l = l.fn.len - vec_len l.bytes
