use Rattle.std.proofs.Common.{◌-◌, length}
use Rattle.lethe_segment.proofs.Loop.{IsReadTo}
use Rattle.lethe_segment.proofs.replaying.read_all.Given as goal

abbrev pub invariant-gates : goal.invariant-gates
invariant-gates l = IsReadTo l.bytes l.records.items l.last l.gate

abbrev pub decreases-gates : goal.decreases-gates
decreases-gates l = length l.bytes - l.gate
