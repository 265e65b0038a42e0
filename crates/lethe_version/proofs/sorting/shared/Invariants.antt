use Rattle.std.proofs.Common.{◌≡◌, map}
use Rattle.lethe_version.proofs.sorting.shared.Given as goal

abbrev pub invariant-loop-file : goal.invariant-loop-file
invariant-loop-file g l = map (λ one. one.file.value) l.shared.items ≡ l.yielded
