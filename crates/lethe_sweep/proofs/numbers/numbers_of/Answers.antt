use Rattle.std.proofs.Common.{◌++◌, List, ap, filter, map, not, ◌∙◌}
use Rattle.lethe_header.specs.declared.header.PageLine.{PageLine}
use Rattle.lethe_header.specs.declared.header.TileLine.{TileLine}
use Rattle.lethe_sweep.proofs.Reading.{read_more}
use Rattle.lethe_sweep.specs.Fences.{dropped_numbers, is_kept, kept_numbers}
use Rattle.lethe_sweep.proofs.numbers.numbers_of.Goals as goal

pub loop-tile-preserved : goal.loop-tile-preserved
loop-tile-preserved c =
    let range = c.args.range.now in
    let alone = c.args.alone in
    let tiles = c.args.tiles.now in
    let numbers = c.loop-tile.numbers in
    let kept = λ (lines : List PageLine). map (λ (line : PageLine). line.no) (filter (is_kept alone range lines) lines) in
    let dropped = λ (lines : List PageLine). map (λ (line : PageLine). line.no) (filter (λ line. not (is_kept alone range lines line)) lines) in (
      read_more (λ (tile : TileLine). kept tile.pages) (kept_numbers alone range tiles) numbers.kept.items c.add_tile.new.numbers.kept.items tiles c.loop-tile.tile-index c.tile-item.result c.loop-tile-test.true c.tile-item.is
          c.loop-tile.invariant.0 (c.in_ok-add_tile.ensures.kept ∙ ap (λ (lines : List PageLine). numbers.kept.items ++ kept lines) c.items.ensures),
      read_more (λ (tile : TileLine). dropped tile.pages) (dropped_numbers alone range tiles) numbers.dropped.items c.add_tile.new.numbers.dropped.items tiles c.loop-tile.tile-index c.tile-item.result c.loop-tile-test.true c.tile-item.is
          c.loop-tile.invariant.1 (c.in_ok-add_tile.ensures.dropped ∙ ap (λ (lines : List PageLine). numbers.dropped.items ++ dropped lines) c.items.ensures),
    )
