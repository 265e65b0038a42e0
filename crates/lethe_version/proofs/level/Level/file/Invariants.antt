use Rattle.std.proofs.Common.{◌≡◌, map, take, None}
use Rattle.std.specs.Prelude.{◌==◌, find}
use Rattle.lethe_version.proofs.level.Level.file.Given as goal

abbrev pub invariant-loop-file : goal.invariant-loop-file
invariant-loop-file g l = find (λ file. file.header.no == l.no) (map (λ shared. shared.file.value) (take l.file-index l.self.files.items)) ≡ None
