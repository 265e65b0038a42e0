use Rattle.std.proofs.Common.{All}
use Rattle.lethe_base.specs.Spelling.{HasSpelling}
use Rattle.lethe_test_files.proofs.build.entries_of.Given as goal

abbrev pub invariant-loop-word : goal.invariant-loop-word
invariant-loop-word g l = All HasSpelling l.entries.items
