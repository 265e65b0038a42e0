use Rattle.std.proofs.Common.{Any, take}
use Rattle.lethe_snapshot.specs.Times.{IsLeast, IsOldestIn}
use Rattle.lethe_snapshot.proofs.limit.least_of_files.Given as goal

abbrev pub invariant-loop-shared : goal.invariant-loop-shared
invariant-loop-shared g l = IsLeast l.time (λ time. Any (λ shared. IsOldestIn shared.file.value.header.tiles time) (take l.shared-index l.files)) l.least
