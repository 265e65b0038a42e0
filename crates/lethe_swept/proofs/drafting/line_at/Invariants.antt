use Rattle.lethe_swept.proofs.Places.{IsAhead}
use Rattle.lethe_swept.proofs.drafting.line_at.Given as goal

abbrev pub invariant-loop-tile : goal.invariant-loop-tile
invariant-loop-tile l = IsAhead l.tiles l.fn.place l.tile-index l.left
