use Rattle.std.proofs.Common.{◌≡◌, Any, Some, take}
use Rattle.lethe_snapshot.specs.Times.{IsLeast}
use Rattle.lethe_snapshot.proofs.limit.least_of_lines.Given as goal

abbrev pub invariant-loop-line : goal.invariant-loop-line
invariant-loop-line l = IsLeast l.time (λ time. Any (λ line. line.oldest ≡ Some time) (take l.line-index l.lines)) l.least
