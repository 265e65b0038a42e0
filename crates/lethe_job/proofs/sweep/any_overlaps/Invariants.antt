use Rattle.std.proofs.Common.{◌≡◌, false, map, take}
use Rattle.lethe_job.specs.SweepTasks.{any_overlaps}
use Rattle.lethe_job.specs.Tasks.{plain_file}
use Rattle.lethe_job.proofs.sweep.any_overlaps.Given as goal

abbrev pub invariant-loop-file : goal.invariant-loop-file
invariant-loop-file g l = any_overlaps l.reach (map plain_file (take l.file-index l.files)) ≡ false
