use Rattle.std.proofs.Common.{◌≡◌, map, take}
use Rattle.lethe_job.specs.Shapes.{facts_at}
use Rattle.lethe_job.specs.Tasks.{plain_file}
use Rattle.lethe_job.proofs.shape.facts_at.Given as goal

abbrev pub invariant-loop-file : goal.invariant-loop-file
invariant-loop-file g l = l.facts.items ≡ facts_at (map plain_file (take l.file-index l.files)) l.level
