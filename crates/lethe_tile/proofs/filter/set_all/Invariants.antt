use Rattle.std.proofs.Common.{◌<◌, ◌^◌, All}
use Rattle.lethe_tile.proofs.Bits.{SetsBelow}
use Rattle.lethe_tile.proofs.filter.set_all.Given as goal

abbrev pub invariant-loop-probe : goal.invariant-loop-probe
invariant-loop-probe l = SetsBelow l.initial.words l.words l.hash l.probe × (All (λ word. word < 2 ^ 64) l.initial.words → All (λ word. word < 2 ^ 64) l.words)
