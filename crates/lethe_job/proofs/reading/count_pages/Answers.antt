use Rattle.std.proofs.Common.{◌≡◌, arith, ap, length, ◌∙◌}
use Rattle.lethe_header.specs.Facts.{lines_of}
use Rattle.lethe_header.specs.declared.header.Header.{Header}
use Rattle.lethe_header.specs.declared.header.TileLine.{TileLine}
use Rattle.lethe_file.proofs.Pages.{pages_fit}
use Rattle.lethe_job.proofs.reading.count_pages.Goals as goal

pub overflow_add-count : goal.overflow_add-count
overflow_add-count g c =
    let tiles = c.items-tile-items.result.now in
    let file = c.args.file.now in
    let fit = pages_fit tiles c.loop-tile.tile-index c.tile-item.result c.loop-tile-test.true in
    let same : length (lines_of tiles) ≡ length (lines_of file.header.tiles) = ap (λ ts. length (lines_of ts)) (c.items-tile-items.ensures ∙ ap (λ (h : Header). h.tiles) c.header.ensures) in
    omega (arith, fit, c.loop-tile.invariant, ap length c.items.ensures, ap (λ (t : TileLine). length t.pages) c.tile-item.is, same, file.paged, file.pages.ok.0, file.pages.ok.1, file.pages.small)
