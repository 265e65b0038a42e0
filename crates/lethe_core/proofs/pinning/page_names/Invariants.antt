use Rattle.std.proofs.Common.{◌≡◌, map, take}
use Rattle.std.specs.Prelude.{flat_map}
use Rattle.lethe_file.specs.Agreement.{page_name}
use Rattle.lethe_header.specs.Facts.{lines_of}
use Rattle.lethe_version.specs.Versions.{levels_of}
use Rattle.lethe_core.proofs.pinning.page_names.Given as goal

abbrev pub invariant-loop-level : goal.invariant-loop-level
invariant-loop-level g l = l.names.items ≡ flat_map (λ file. map (λ line. page_name line.no) (lines_of file.header.tiles)) (flat_map (λ files. files) (take l.level (levels_of l.version)))
