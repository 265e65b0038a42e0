use Rattle.lethe_swept.proofs.Numbers.{AreTilesNumbering}
use Rattle.lethe_swept.proofs.numbering.tiles_with.Given as goal

abbrev pub invariant-loop-tile : goal.invariant-loop-tile
invariant-loop-tile l = AreTilesNumbering l.numbers l.taken l.fn.tiles.items l.tile-iterator.rest.items l.all.items
