use Rattle.std.specs.Prelude.{◌≡◌, ◌++◌, map, take}
use Rattle.lethe_recover.specs.Cited.{line_name}
use Rattle.lethe_recover.proofs.cited.push_pages.Given as goal

abbrev pub invariant-loop-line : goal.invariant-loop-line
invariant-loop-line l = l.names.items ≡ l.initial.names.items ++ map line_name (take l.line-index l.lines)
