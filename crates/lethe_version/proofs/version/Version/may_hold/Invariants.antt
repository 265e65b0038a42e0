use Rattle.std.proofs.Common.{◌≡◌, map, take, false, ltb}
use Rattle.std.specs.List.{flat_map, list_any}
use Rattle.lethe_version.specs.Probing.{bound}
use Rattle.lethe_version.proofs.version.Version.may_hold.Given as goal

abbrev pub invariant-loop-level : goal.invariant-loop-level
invariant-loop-level g l = list_any (λ file. ltb 0 (bound l.key file.header)) (flat_map (λ level. map (λ shared. shared.file.value) level.files.items) (take l.level-index l.self.levels.items)) ≡ false
