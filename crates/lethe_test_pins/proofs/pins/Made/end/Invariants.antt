use Rattle.std.proofs.Common.{length}
use Rattle.lethe_test_pins.proofs.pins.Made.end.Given as goal

abbrev pub decreases-loop-pin : goal.decreases-loop-pin
decreases-loop-pin l = length l.held.items
