use Rattle.std.proofs.Common.{◌≡◌, take, false, ltb}
use Rattle.std.specs.List.{list_any}
use Rattle.lethe_version.specs.Probing.{bound}
use Rattle.lethe_version.proofs.probing.any_may_hold.Given as goal

abbrev pub invariant-loop-file : goal.invariant-loop-file
invariant-loop-file g l = list_any (λ shared. ltb 0 (bound l.key shared.file.value.header)) (take l.file-index l.files) ≡ false
