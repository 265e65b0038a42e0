use Rattle.std.proofs.Common.{◌≡◌}
use Rattle.lethe_build.proofs.Numbering.{numbers_behind, tiles_to}
use Rattle.lethe_build.proofs.draft.with_numbers.Given as goal

abbrev pub invariant-loop-tile : goal.invariant-loop-tile
invariant-loop-tile l = record { items : l.tile-items ≡ tiles_to l.tile-index l.numbers l.fn.tiles; behind : l.left ≡ numbers_behind l.tile-index l.numbers l.fn.tiles }
