use Rattle.std.proofs.Common.{◌≡◌, ◌++◌, map, take}
use Rattle.std.specs.Prelude.{flat_map}
use Rattle.lethe_file.specs.Agreement.{page_name}
use Rattle.lethe_header.specs.Facts.{lines_of}
use Rattle.lethe_core.proofs.pinning.add_files.Given as goal

abbrev pub invariant-loop-shared : goal.invariant-loop-shared
invariant-loop-shared g l = l.names.items ≡ l.initial.names.items ++ flat_map (λ shared. map (λ line. page_name line.no) (lines_of shared.file.value.header.tiles)) (take l.shared-index l.files)
