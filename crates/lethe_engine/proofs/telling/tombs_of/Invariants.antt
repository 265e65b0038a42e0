use Rattle.std.proofs.Common.{◌≡◌, take}
use Rattle.lethe_header.specs.Facts.{lines_of, tombs_in}
use Rattle.lethe_engine.specs.Capped.{capped}
use Rattle.lethe_engine.proofs.telling.tombs_of.Given as goal

abbrev pub invariant-loop-tile : goal.invariant-loop-tile
invariant-loop-tile l = l.tombs ≡ capped (tombs_in (lines_of (take l.tile-index l.tiles)))
