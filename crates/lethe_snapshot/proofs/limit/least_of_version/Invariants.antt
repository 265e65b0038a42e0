use Rattle.std.proofs.Common.{Any, take}
use Rattle.lethe_version.specs.Versions.{levels_of}
use Rattle.lethe_snapshot.specs.Times.{IsLeast, IsOldestIn}
use Rattle.lethe_snapshot.proofs.limit.least_of_version.Given as goal

abbrev pub invariant-loop-level : goal.invariant-loop-level
invariant-loop-level g l = IsLeast l.time (λ time. Any (λ files. Any (λ file. IsOldestIn file.header.tiles time) files) (take l.level (levels_of l.version))) l.least
