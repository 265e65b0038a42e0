use Rattle.lethe_file.specs.Waiting.{waiting}
use Rattle.lethe_file.proofs.Held.{IsHolding}
use Rattle.lethe_file.proofs.holding.hold_tiles.Given as goal

abbrev pub invariant-loop-tile : goal.invariant-loop-tile
invariant-loop-tile g l = IsHolding (λ page. g.D.Disk.page_bytes page.value) l.range.lo l.range.hi l.tiles l.pages l.tile-index l.rest (waiting g.D.Disk.page_bytes l.held.items)
