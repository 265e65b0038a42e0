use Rattle.std.proofs.Common.{◌≡◌, length, take}
use Rattle.lethe_header.specs.Facts.{lines_of}
use Rattle.lethe_job.proofs.reading.count_pages.Given as goal

abbrev pub invariant-loop-tile : goal.invariant-loop-tile
invariant-loop-tile g l = l.count ≡ length (lines_of (take l.tile-index l.tile-items))
