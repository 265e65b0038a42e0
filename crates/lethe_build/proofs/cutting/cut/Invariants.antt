use Rattle.std.proofs.Common.{map}
use Rattle.lethe_tile.specs.Woven.{plain}
use Rattle.lethe_tile.proofs.Parts.{IsCutting}
use Rattle.lethe_build.proofs.cutting.cut.Given as goal

abbrev pub invariant-loop-tile : goal.invariant-loop-tile
invariant-loop-tile l = IsCutting l.most (map (λ group. map plain group.items) l.groups.items) (map plain l.group.items) (map plain l.tile-iterator.rest.items) (map plain l.fn.tiles.items)
