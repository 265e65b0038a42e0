use Rattle.std.proofs.Common.{◌+◌, take, length, sym, ap, ◌∙◌, arith, length-append}
use Rattle.std.proofs.lemmas.List.{take_all}
use Rattle.lethe_header.specs.Facts.{lines_of}
use Rattle.lethe_version.proofs.Opened.{lines_more}
use Rattle.lethe_test_files.proofs.opening.pages_on.Goals as goal

pub loop-tile-preserved : goal.loop-tile-preserved
loop-tile-preserved g c =
    let i = c.loop-tile.tile-index in
    let tiles = c.items-tile-items.result.now in
    let more = lines_more tiles i c.tile-item.result c.loop-tile-test.true c.tile-item.is in
    c.add_pages.ensures ∙ (λ k. c.loop-tile.invariant k + length (c.items-lines.ensures k)) ∙ sym (length-append (lines_of (take i tiles)) c.tile-item.result.pages) ∙ ap length (sym more)

pub returns : goal.returns
returns g c =
    c.loop-tile.invariant ∙ ap (λ tiles. length (lines_of tiles)) (take_all c.loop-tile.tile-index c.items-tile-items.result.now (omega (arith, c.loop-tile-test.false)) ∙ c.items-tile-items.ensures)
