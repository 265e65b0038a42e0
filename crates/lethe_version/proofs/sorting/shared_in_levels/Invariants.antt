use Rattle.std.proofs.Common.{◌≡◌, map}
use Rattle.lethe_version.proofs.sorting.shared_in_levels.Given as goal

abbrev pub invariant-loop-new : goal.invariant-loop-new
invariant-loop-new g l = map (λ one. record { level = one.level; file = one.file.file.value }) l.shared.items ≡ l.yielded
