use Rattle.lethe_core.specs.Running.{IsSound}
use Rattle.lethe_core.specs.View.{view_of}
use Rattle.lethe_test_shared.proofs.faults.filled.Given as goal

abbrev pub invariant-loop-text : goal.invariant-loop-text
invariant-loop-text g l = IsSound g.D.Disk.tells (view_of l.engine.core)
