use Rattle.std.proofs.Common.{◌≡◌, ◌++◌, take}
use Rattle.std.specs.List.{flat_map}
use Rattle.lethe_manifest.specs.Manifests.{file_bytes}
use Rattle.lethe_manifest.proofs.writing.write_files.Given as goal

-- those so far, behind their number
abbrev pub invariant-loop-file : goal.invariant-loop-file
invariant-loop-file l = l.out.items ≡ l.initial.out.items ++ flat_map file_bytes (take l.file-index l.files)
