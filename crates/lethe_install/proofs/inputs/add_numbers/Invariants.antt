use Rattle.std.proofs.Common.{◌≡◌, ◌++◌, map, take}
use Rattle.lethe_job.specs.Tasks.{plain_file}
use Rattle.lethe_install.specs.Inputs.{number_of}
use Rattle.lethe_install.proofs.inputs.add_numbers.Given as goal

abbrev pub invariant-loop-file : goal.invariant-loop-file
invariant-loop-file g l = l.numbers.items ≡ l.initial.numbers.items ++ map number_of (map plain_file (take l.file-index l.files))
