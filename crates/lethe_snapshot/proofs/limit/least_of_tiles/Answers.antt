use Rattle.std.proofs.Common.{◌≡◌, List, Any, Some, subst}
use Rattle.lethe_header.specs.declared.header.PageLine.{PageLine}
use Rattle.lethe_header.specs.declared.header.TileLine.{TileLine}
use Rattle.lethe_snapshot.specs.Times.{IsLeast}
use Rattle.lethe_snapshot.proofs.Least.{least_more}
use Rattle.lethe_snapshot.proofs.limit.least_of_tiles.Goals as goal

pub loop-tile-preserved : goal.loop-tile-preserved
loop-tile-preserved c =
    least_more (λ (tile : TileLine) time. Any (λ (line : PageLine). line.oldest ≡ Some time) tile.pages) c.args.time c.args.tiles.now c.loop-tile.tile-index c.tile-item.result c.loop-tile.least c.least_of_lines-least.result
    c.loop-tile-test.true c.tile-item.is c.loop-tile.invariant
    (subst (λ (lines : List PageLine). IsLeast c.loop-tile.least (λ time. Any (λ (line : PageLine). line.oldest ≡ Some time) lines) c.least_of_lines-least.result) c.items.ensures c.least_of_lines-least.ensures)
