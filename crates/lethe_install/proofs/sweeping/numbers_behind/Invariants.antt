use Rattle.std.proofs.Common.{◌≡◌, map, take}
use Rattle.lethe_manifest.specs.declared.manifest.Cited.{Cited}
use Rattle.lethe_install.proofs.sweeping.numbers_behind.Given as goal

abbrev pub invariant-loop-file : goal.invariant-loop-file
invariant-loop-file l = l.numbers.items ≡ map (λ (file : Cited). file.no) (take l.file-index l.file-items)
