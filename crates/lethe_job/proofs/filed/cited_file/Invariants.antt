use Rattle.std.proofs.Common.{◌≡◌, [], map, slice_index_or}
use Rattle.lethe_version.specs.Versions.{levels_of}
use Rattle.lethe_job.proofs.filed.cited_file.Given as goal

abbrev pub invariant-loop-file : goal.invariant-loop-file
invariant-loop-file g l = map (λ shared. shared.file.value) l.file-items ≡ slice_index_or (levels_of l.version) l.cited.level []
