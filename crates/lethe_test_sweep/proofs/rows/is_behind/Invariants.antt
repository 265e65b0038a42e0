use Rattle.std.proofs.Common.{take}
use Rattle.lethe_sweep.specs.Sweeping.{IsBehind}
use Rattle.lethe_test_sweep.proofs.rows.is_behind.Given as goal

abbrev pub invariant-loop-tile : goal.invariant-loop-tile
invariant-loop-tile l = IsBehind l.erase (take l.tile-index l.tiles)
