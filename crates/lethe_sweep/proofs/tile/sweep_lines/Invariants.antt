use Rattle.std.proofs.Common.{◌≡◌, ◌+◌, map, take}
use Rattle.lethe_file.specs.Agreement.{entries_in}
use Rattle.lethe_sweep.specs.Modes.{is_fetched_in}
use Rattle.lethe_sweep.specs.Steps.{IsLeft}
use Rattle.lethe_swept.specs.Left.{placed}
use Rattle.lethe_sweep.proofs.Stepping.{AreCounted}
use Rattle.lethe_sweep.proofs.tile.sweep_lines.Given as goal

abbrev pub invariant-loop-line : goal.invariant-loop-line
invariant-loop-line g l =
    AreCounted (is_fetched_in l.mode l.erase.range) l.lines l.line-index (g.D.Disk.fetches l.fn.port) (g.D.Disk.fetches l.port) (g.D.Disk.port_faults l.fn.port) (g.D.Disk.port_faults l.port)
    × (l.place ≡ l.first + l.line-index)
    × IsLeft g.D.Disk.tells l.mode l.erase (map entries_in (map (λ page. g.D.Disk.page_bytes page.value) l.file.pages.items)) (placed l.first (take l.line-index l.lines)) l.left.tombs.items l.left.parts.items
