use Rattle.std.proofs.Common.{◌≡◌, length, map, take}
use Rattle.lethe_file.specs.Agreement.{entries_in}
use Rattle.lethe_header.specs.Facts.{lines_of}
use Rattle.lethe_sweep.specs.Steps.{AreTilesLeft}
use Rattle.lethe_sweep.proofs.Tiling.{AreFetched}
use Rattle.lethe_sweep.proofs.sweeping.sweep_tiles.Given as goal

abbrev pub invariant-loop-tile : goal.invariant-loop-tile
invariant-loop-tile g l =
    AreFetched l.alone l.erase.range l.file.header.tiles l.tile-index (g.D.Disk.fetches l.fn.port) (g.D.Disk.fetches l.port) (g.D.Disk.port_faults l.fn.port) (g.D.Disk.port_faults l.port)
    × (l.first ≡ length (lines_of (take l.tile-index l.file.header.tiles)))
    × AreTilesLeft g.D.Disk.tells l.alone l.erase (map entries_in (map (λ page. g.D.Disk.page_bytes page.value) l.file.pages.items)) (take l.tile-index l.file.header.tiles) l.tiles.items
