use Rattle.std.proofs.Common.{◌≡◌, ◌++◌}
use Rattle.lethe_file.specs.Agreement.{keys_of}
use Rattle.lethe_build.proofs.line.keys_of.Given as goal

abbrev pub invariant-loop-entry : goal.invariant-loop-entry
invariant-loop-entry l = l.keys.items ++ keys_of l.entry-iterator.rest.items ≡ keys_of l.fn.entries.items
