use Rattle.std.proofs.Common.{◌≤◌, ◌-◌}
use Rattle.lethe_mem.specs.Order.{count_below}
use Rattle.lethe_mem.proofs.buffer.first_from.Given as goal

abbrev pub invariant-loop-from : goal.invariant-loop-from
invariant-loop-from g l = (l.from ≤ count_below l.lo (g.B.Buffer.entries l.buffer)) × (count_below l.lo (g.B.Buffer.entries l.buffer) ≤ l.to)

abbrev pub decreases-loop-from : goal.decreases-loop-from
decreases-loop-from g l = l.to - l.from
