use Rattle.std.proofs.Common.{◌≡◌, false, map, take}
use Rattle.lethe_job.specs.Chosen.{lies_below}
use Rattle.lethe_job.specs.Tasks.{plain_file}
use Rattle.lethe_job.proofs.inputs.lies_below.Given as goal

abbrev pub invariant-loop-file : goal.invariant-loop-file
invariant-loop-file g l = lies_below l.level l.reach (map plain_file (take l.file-index l.files)) ≡ false
