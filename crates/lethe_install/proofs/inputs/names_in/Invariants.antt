use Rattle.std.proofs.Common.{◌≡◌, map, take}
use Rattle.std.specs.Prelude.{flat_map}
use Rattle.lethe_job.specs.Tasks.{plain_file}
use Rattle.lethe_install.specs.Inputs.{names_of, numbered}
use Rattle.lethe_install.proofs.inputs.names_in.Given as goal

abbrev pub invariant-loop-file : goal.invariant-loop-file
invariant-loop-file g l = l.names.items ≡ flat_map names_of (numbered l.numbers (map plain_file (take l.file-index l.files)))
