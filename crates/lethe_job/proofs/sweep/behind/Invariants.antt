use Rattle.std.proofs.Common.{◌≡◌, drop, map}
use Rattle.lethe_job.specs.SweepTasks.{behind}
use Rattle.lethe_job.specs.Tasks.{plain_file}
use Rattle.lethe_job.proofs.sweep.behind.Given as goal

-- the file of that number isn't among the first ones
abbrev pub invariant-loop-place : goal.invariant-loop-place
invariant-loop-place g l = behind l.number (map plain_file l.files) ≡ behind l.number (map plain_file (drop l.place l.files))
