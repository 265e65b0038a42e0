use Rattle.std.proofs.Common.{◌≡◌, ◌++◌, map, take}
use Rattle.lethe_file.specs.Agreement.{page_name}
use Rattle.lethe_header.specs.Facts.{lines_of}
use Rattle.lethe_header.specs.declared.header.PageLine.{PageLine}
use Rattle.lethe_core.proofs.pinning.add_pages.Given as goal

abbrev pub invariant-loop-tile : goal.invariant-loop-tile
invariant-loop-tile g l = l.names.items ≡ l.initial.names.items ++ map (λ (line : PageLine). page_name line.no) (lines_of (take l.tile-index l.tile-items))
