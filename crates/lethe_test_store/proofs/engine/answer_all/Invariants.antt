use Rattle.lethe_core.specs.Running.{IsSound}
use Rattle.lethe_core.specs.View.{view_of}
use Rattle.lethe_test_store.proofs.engine.answer_all.Given as goal

-- each call leaves it sound
abbrev pub invariant-loop-step : goal.invariant-loop-step
invariant-loop-step g l = IsSound g.D.Disk.tells (view_of l.engine.core)
