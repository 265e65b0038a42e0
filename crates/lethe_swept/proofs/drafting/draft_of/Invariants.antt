use Rattle.lethe_header.specs.Facts.{lines_of}
use Rattle.lethe_swept.proofs.Loops.{AreTilesDrafted}
use Rattle.lethe_swept.proofs.drafting.draft_of.Given as goal

abbrev pub invariant-loop-tile : goal.invariant-loop-tile
invariant-loop-tile l = AreTilesDrafted (lines_of l.tiles) l.fn.swept.tiles l.tile-iterator.rest.items l.drafts.items l.pages.items
