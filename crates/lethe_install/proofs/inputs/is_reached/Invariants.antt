use Rattle.std.proofs.Common.{◌≡◌, false, map, take}
use Rattle.lethe_job.specs.Tasks.{plain_file}
use Rattle.lethe_install.specs.Inputs.{is_reached}
use Rattle.lethe_install.proofs.inputs.is_reached.Given as goal

abbrev pub invariant-loop-source : goal.invariant-loop-source
invariant-loop-source g l = is_reached (map plain_file (take l.source-index l.sources)) (plain_file l.file) ≡ false
