use Rattle.std.proofs.Common.{◌≡◌, take}
use Rattle.lethe_run.specs.Printed.{lines_text}
use Rattle.lethe_run.proofs.print.spell.Given as goal

-- the text has the lines so far
abbrev pub invariant-loop-line : goal.invariant-loop-line
invariant-loop-line l = l.text.items ≡ lines_text (take l.line-index l.lines)
