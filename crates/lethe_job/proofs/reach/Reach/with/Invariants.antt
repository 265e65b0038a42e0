use Rattle.std.proofs.Common.{◌≡◌, map, take}
use Rattle.lethe_job.specs.Chosen.{hull_with}
use Rattle.lethe_job.specs.Tasks.{plain_file}
use Rattle.lethe_job.proofs.reach.Reach.with.Given as goal

abbrev pub invariant-loop-file : goal.invariant-loop-file
invariant-loop-file g l = l.reach ≡ hull_with l.fn.self (map plain_file (take l.file-index l.files))
