use Rattle.std.proofs.Common.{◌≡◌, ◌++◌, map, take}
use Rattle.lethe_file.specs.Agreement.{page_name}
use Rattle.lethe_header.specs.declared.header.PageLine.{PageLine}
use Rattle.lethe_core.proofs.pinning.add_lines.Given as goal

abbrev pub invariant-loop-line : goal.invariant-loop-line
invariant-loop-line l = l.names.items ≡ l.initial.names.items ++ map (λ (line : PageLine). page_name line.no) (take l.line-index l.lines)
