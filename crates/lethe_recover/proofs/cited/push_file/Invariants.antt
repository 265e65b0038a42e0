use Rattle.std.specs.Prelude.{◌≡◌, ◌++◌, map, take}
use Rattle.lethe_header.specs.Facts.{lines_of}
use Rattle.lethe_recover.specs.Cited.{line_name}
use Rattle.lethe_recover.proofs.cited.push_file.Given as goal

abbrev pub invariant-loop-tile : goal.invariant-loop-tile
invariant-loop-tile l = l.names.items ≡ l.initial.names.items ++ map line_name (lines_of (take l.tile-index l.tile-items))
