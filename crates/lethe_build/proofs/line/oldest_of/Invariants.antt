use Rattle.std.proofs.Common.{◌≡◌, take}
use Rattle.lethe_base.specs.Shapes.{oldest_of}
use Rattle.lethe_build.proofs.line.oldest_of.Given as goal

abbrev pub invariant-loop-entry : goal.invariant-loop-entry
invariant-loop-entry l = l.oldest ≡ oldest_of (take l.entry-index l.entries)
