use Rattle.std.proofs.Common.{arith, ap, length}
use Rattle.lethe_header.specs.declared.header.TileLine.{TileLine}
use Rattle.lethe_file.proofs.Pages.{pages_fit}
use Rattle.lethe_file.proofs.finding.starts_of.Goals as goal

pub overflow_add-start : goal.overflow_add-start
overflow_add-start c =
    let fit = pages_fit c.args.tiles.now c.loop-tile.tile-index c.tile-item.result c.loop-tile-test.true in
    omega (arith, fit, c.loop-tile.invariant.start, ap length c.items.ensures, ap (λ (t : TileLine). length t.pages) c.tile-item.is, c.requires)
