use Rattle.std.proofs.Common.{◌≡◌, ◌-◌, ◌^◌, min, take, map}
use Rattle.lethe_core.specs.Descent.{unswept_pairs}
use Rattle.lethe_job.specs.Tasks.{plain_file}
use Rattle.lethe_core.proofs.descent.unswept_pairs.Given as goal

abbrev pub invariant-loop-file : goal.invariant-loop-file
invariant-loop-file g l = l.pairs ≡ min (unswept_pairs (map plain_file (take l.file-index l.files)) l.erases) (2 ^ 64 - 1)
