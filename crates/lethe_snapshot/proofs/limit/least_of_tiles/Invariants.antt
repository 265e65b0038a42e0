use Rattle.std.proofs.Common.{take}
use Rattle.lethe_snapshot.specs.Times.{IsLeast, IsOldestIn}
use Rattle.lethe_snapshot.proofs.limit.least_of_tiles.Given as goal

abbrev pub invariant-loop-tile : goal.invariant-loop-tile
invariant-loop-tile l = IsLeast l.time (IsOldestIn (take l.tile-index l.tiles)) l.least
