use Rattle.std.proofs.Common.{◌-◌, length}
use Rattle.lethe_header.specs.Reading.{tile_behind}
use Rattle.lethe_header.proofs.Loop.{IsReadTo}
use Rattle.lethe_header.proofs.tile.read_tiles.Given as goal

abbrev pub invariant-tiles : goal.invariant-tiles
invariant-tiles l = IsReadTo tile_behind l.count l.bytes 13 l.tiles.items l.at

abbrev pub decreases-tiles : goal.decreases-tiles
decreases-tiles l = l.count - length l.tiles.items
