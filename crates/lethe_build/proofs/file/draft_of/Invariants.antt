use Rattle.std.proofs.Common.{map}
use Rattle.lethe_tile.specs.Woven.{plain}
use Rattle.lethe_build.proofs.Loops.{AreJoined}
use Rattle.lethe_build.proofs.file.draft_of.Given as goal

abbrev pub invariant-loop-tile : goal.invariant-loop-tile
invariant-loop-tile l = AreJoined (map plain l.fn.tiles.items) (map plain l.tile-iterator.rest.items) l.lines.items l.pages.items
