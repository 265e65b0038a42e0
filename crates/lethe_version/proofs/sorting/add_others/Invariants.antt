use Rattle.std.proofs.Common.{◌≡◌, ◌++◌, map, take}
use Rattle.std.specs.Prelude.{filter}
use Rattle.lethe_version.specs.Order.{is_kept}
use Rattle.lethe_version.proofs.sorting.add_others.Given as goal

abbrev pub invariant-loop-file : goal.invariant-loop-file
invariant-loop-file g l = map (λ one. one.file.value) l.files.items ≡ map (λ one. one.file.value) l.fn.files.items ++ filter (λ one. is_kept l.gone one.header) (map (λ one. one.file.value) (take l.file-index l.from))
