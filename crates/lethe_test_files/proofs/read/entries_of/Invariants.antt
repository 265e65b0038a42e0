use Rattle.std.proofs.Common.{All}
use Rattle.lethe_base.specs.Spelling.{HasSpelling}
use Rattle.lethe_test_files.proofs.read.entries_of.Given as goal

abbrev pub invariant-loop-row : goal.invariant-loop-row
invariant-loop-row g l = All HasSpelling l.entries.items
