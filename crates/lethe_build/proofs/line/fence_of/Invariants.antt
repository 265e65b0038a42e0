use Rattle.std.proofs.Common.{◌≡◌, take}
use Rattle.lethe_file.specs.Agreement.{fence_of}
use Rattle.lethe_build.proofs.line.fence_of.Given as goal

abbrev pub invariant-loop-entry : goal.invariant-loop-entry
invariant-loop-entry l = l.fence ≡ fence_of (take l.entry-index l.entries)
