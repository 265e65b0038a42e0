use Rattle.std.proofs.Common.{◌≡◌, map}
use Rattle.std.specs.List.{range_with_len}
use Rattle.lethe_job.specs.Shapes.{facts_at}
use Rattle.lethe_job.specs.Tasks.{plain_file}
use Rattle.lethe_job.proofs.shape.shape_of.Given as goal

abbrev pub invariant-loop-level : goal.invariant-loop-level
invariant-loop-level g l = l.levels.items ≡ map (facts_at (map plain_file l.files)) (range_with_len 0 l.level)
