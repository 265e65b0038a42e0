use Rattle.std.proofs.Common.{take}
use Rattle.lethe_header.proofs.Sums.{AreSums}
use Rattle.lethe_header.proofs.facts.Sums.with_lines.Given as goal

abbrev pub invariant-loop-line : goal.invariant-loop-line
invariant-loop-line l = AreSums l.fn.self l.sums (take l.line-index l.lines)
