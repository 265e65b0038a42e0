use Rattle.std.proofs.Common.{◌≡◌, ◌++◌, drop}
use Rattle.lethe_sweep.specs.Fences.{dropped_numbers, kept_numbers}
use Rattle.lethe_sweep.proofs.numbers.numbers_of.Given as goal

abbrev pub invariant-loop-tile : goal.invariant-loop-tile
invariant-loop-tile l =
    (l.numbers.kept.items ++ kept_numbers l.alone l.range (drop l.tile-index l.tiles) ≡ kept_numbers l.alone l.range l.tiles)
    × (l.numbers.dropped.items ++ dropped_numbers l.alone l.range (drop l.tile-index l.tiles) ≡ dropped_numbers l.alone l.range l.tiles)
