use Rattle.std.proofs.Common.{◌≡◌, ◌++◌, take}
use Rattle.std.specs.List.{flat_map}
use Rattle.lethe_header.specs.Headers.{tile_bytes}
use Rattle.lethe_header.proofs.writing.write_tiles.Given as goal

-- those so far
abbrev pub invariant-loop-tile : goal.invariant-loop-tile
invariant-loop-tile l = l.out.items ≡ l.fn.out.items ++ flat_map (tile_bytes) (take l.tile-index l.tiles)
