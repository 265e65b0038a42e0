use Rattle.std.proofs.Common.{◌≡◌, ◌-◌, ◌^◌, min, take, map}
use Rattle.lethe_core.specs.Descent.{steps_down}
use Rattle.lethe_job.specs.Tasks.{plain_file}
use Rattle.lethe_core.proofs.descent.steps_down.Given as goal

abbrev pub invariant-loop-file : goal.invariant-loop-file
invariant-loop-file g l = l.steps ≡ min (steps_down l.deepest (map plain_file (take l.file-index l.files))) (2 ^ 64 - 1)
