use Rattle.std.proofs.Common.{◌≡◌, map, take}
use Rattle.std.specs.Prelude.{filter}
use Rattle.lethe_job.specs.Tasks.{plain_file}
use Rattle.lethe_install.specs.Inputs.{is_above, number_of}
use Rattle.lethe_install.proofs.inputs.numbers_above.Given as goal

abbrev pub invariant-loop-file : goal.invariant-loop-file
invariant-loop-file g l = l.numbers.items ≡ map number_of (filter (is_above l.level (map plain_file l.sources)) (map plain_file (take l.file-index l.files)))
