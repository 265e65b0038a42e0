use Rattle.std.proofs.Common.{◌≡◌, ◌++◌, filter_map, flat_map}
use Rattle.lethe_swept.specs.Left.{fresh_in, fresh_of}
use Rattle.lethe_sweep.proofs.file.fresh_in.Given as goal

abbrev pub invariant-loop-tile : goal.invariant-loop-tile
invariant-loop-tile l = l.fresh.items ++ filter_map fresh_of (flat_map (λ tile. tile.parts) l.tile-iterator.rest.items) ≡ fresh_in l.fn.swept
