use Rattle.lethe_swept.proofs.Numbers.{AreNumbering}
use Rattle.lethe_swept.proofs.numbering.number_lines.Given as goal

abbrev pub invariant-loop-line : goal.invariant-loop-line
invariant-loop-line l = AreNumbering l.fn.numbers l.fn.taken l.taken l.fn.lines l.line-iterator.rest.items l.pages.items
