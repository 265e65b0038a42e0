use Rattle.std.proofs.Common.{◌≡◌, ◌+◌, ◌-◌, ◌^◌, min, take}
use Rattle.lethe_header.specs.Facts.{lines_of}
use Rattle.lethe_header.specs.Headers.{entries_in}
use Rattle.lethe_core.proofs.descent.count_entries.Given as goal

abbrev pub invariant-loop-line : goal.invariant-loop-line
invariant-loop-line g l = l.count ≡ min (entries_in (lines_of (take l.tile-index l.tile-items)) + entries_in (take l.line-index l.line-items)) (2 ^ 64 - 1)

abbrev pub invariant-loop-tile : goal.invariant-loop-tile
invariant-loop-tile g l = l.count ≡ min (entries_in (lines_of (take l.tile-index l.tile-items))) (2 ^ 64 - 1)
