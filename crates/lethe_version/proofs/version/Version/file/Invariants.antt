use Rattle.std.proofs.Common.{◌≡◌, map, take, None}
use Rattle.std.specs.Prelude.{◌==◌, find}
use Rattle.std.specs.List.{flat_map}
use Rattle.lethe_version.proofs.version.Version.file.Given as goal

abbrev pub invariant-loop-level : goal.invariant-loop-level
invariant-loop-level g l = find (λ file. file.header.no == l.no) (flat_map (λ level. map (λ shared. shared.file.value) level.files.items) (take l.level-index l.self.levels.items)) ≡ None
