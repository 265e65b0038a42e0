use Rattle.std.proofs.Common.{◌≡◌, map, take}
use Rattle.lethe_job.specs.Chosen.{met_in}
use Rattle.lethe_job.specs.Tasks.{plain_file}
use Rattle.lethe_job.proofs.inputs.met_in.Given as goal

abbrev pub invariant-loop-file : goal.invariant-loop-file
invariant-loop-file g l = map plain_file l.met.items ≡ met_in l.level l.reach (map plain_file (take l.file-index l.files))
