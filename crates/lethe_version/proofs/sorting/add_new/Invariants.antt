use Rattle.std.proofs.Common.{◌≡◌, ◌++◌, map, take}
use Rattle.lethe_version.specs.NewFiles.{shared_in}
use Rattle.lethe_version.proofs.sorting.add_new.Given as goal

abbrev pub invariant-loop-new : goal.invariant-loop-new
invariant-loop-new g l = map (λ one. one.file.value) l.files.items ≡ map (λ one. one.file.value) l.fn.files.items ++ shared_in l.level (take l.new-index l.added)
