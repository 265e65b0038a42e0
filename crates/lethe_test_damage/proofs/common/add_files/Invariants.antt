use Rattle.lethe_core.specs.Running.{IsSound}
use Rattle.lethe_core.specs.View.{view_of}
use Rattle.lethe_test_damage.proofs.common.add_files.Given as goal

-- each call leaves it sound
abbrev pub invariant-loop-keys : goal.invariant-loop-keys
invariant-loop-keys g l = IsSound g.D.Disk.tells (view_of l.engine.core)
