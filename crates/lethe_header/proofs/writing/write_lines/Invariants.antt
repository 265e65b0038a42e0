use Rattle.std.proofs.Common.{◌≡◌, ◌++◌, take}
use Rattle.std.specs.List.{flat_map}
use Rattle.lethe_header.specs.Headers.{line_bytes}
use Rattle.lethe_header.proofs.writing.write_lines.Given as goal

-- those so far
abbrev pub invariant-loop-line : goal.invariant-loop-line
invariant-loop-line l = l.out.items ≡ l.fn.out.items ++ flat_map (line_bytes) (take l.line-index l.lines)
