use Rattle.std.specs.Prelude.{◌≡◌, ◌++◌, map, flat_map, take}
use Rattle.lethe_recover.specs.Cited.{names_in}
use Rattle.lethe_recover.proofs.cited.cited_names.Given as goal

abbrev pub invariant-loop-file : goal.invariant-loop-file
invariant-loop-file g l = l.names.items ≡ l.initial.names.items ++ flat_map names_in (map (λ file. file.header) (take l.file-index l.files))
