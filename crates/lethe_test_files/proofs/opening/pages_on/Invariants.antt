use Rattle.std.proofs.Common.{◌≡◌, length, take}
use Rattle.lethe_header.specs.Facts.{lines_of}
use Rattle.lethe_test_files.proofs.opening.pages_on.Given as goal

abbrev pub invariant-loop-tile : goal.invariant-loop-tile
invariant-loop-tile g l = length l.opened.items ≡ length (lines_of (take l.tile-index l.tile-items))
