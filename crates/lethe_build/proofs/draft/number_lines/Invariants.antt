use Rattle.std.proofs.Common.{◌≡◌}
use Rattle.lethe_build.proofs.Numbering.{lines_to}
use Rattle.lethe_build.proofs.draft.number_lines.Given as goal

abbrev pub invariant-loop-i : goal.invariant-loop-i
invariant-loop-i l = l.line-items ≡ lines_to l.i l.numbers l.fn.lines
