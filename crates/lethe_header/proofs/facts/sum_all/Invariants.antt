use Rattle.std.proofs.Common.{take}
use Rattle.lethe_header.proofs.Sums.{AreTileSums}
use Rattle.lethe_header.proofs.facts.sum_all.Given as goal

abbrev pub invariant-loop-tile : goal.invariant-loop-tile
invariant-loop-tile l = AreTileSums l.sums (take l.tile-index l.tiles)
