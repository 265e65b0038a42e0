use Rattle.lethe_tile.proofs.Bits.{HasBelow}
use Rattle.lethe_tile.proofs.filter.Filter.may_hold.Given as goal

abbrev pub invariant-loop-probe : goal.invariant-loop-probe
invariant-loop-probe l = HasBelow l.self l.hash l.probe
