use Rattle.lethe_header.specs.Facts.{lines_of}
use Rattle.lethe_swept.proofs.Loops.{ArePartsDrafted}
use Rattle.lethe_swept.proofs.drafting.draft_tile.Given as goal

abbrev pub invariant-loop-part : goal.invariant-loop-part
invariant-loop-part l = ArePartsDrafted (lines_of l.tiles) l.fn.pages.items l.fn.tile.parts l.part-iterator.rest.items l.lines.items l.pages.items
