use Rattle.lethe_core.specs.Jobs.{IsAtWork}
use Rattle.lethe_core.specs.Running.{IsSound}
use Rattle.lethe_core.specs.View.{view_of}
use Rattle.lethe_test_objects.proofs.flight.write_pages.Given as goal

-- each page leaves it sound, and the job at work
abbrev pub invariant-loop : goal.invariant-loop
invariant-loop g l = IsSound g.D.Disk.tells (view_of l.engine.core) × IsAtWork g.D.Disk.tells (view_of l.engine.core) l.job
