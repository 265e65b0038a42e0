use Rattle.std.proofs.Common.{◌≡◌, ◌-◌, ◌<◌, List, length, slice_get, refl, sym, ap, ◌∙◌, arith, rules}
use Rattle.std.proofs.lemmas.Option.{slice_get_read}
use Rattle.lethe_header.specs.declared.header.PageLine.{PageLine}
use Rattle.lethe_swept.proofs.Places.{ahead_more, found_here}
use Rattle.lethe_swept.proofs.drafting.line_at.Goals as goal

pub returns-then-left-lines : goal.returns-then-left-lines
returns-then-left-lines c =
    let left = c.loop-tile.left in
    let tile = c.tile-item.result in
    let own : c.items-lines.result.now ≡ tile.pages = search rules in
    let here : left < length tile.pages = omega (arith, ap length own) in
    let line = c.index-lines-left.result in
    found_here c.args.tiles.now c.args.place c.loop-tile.tile-index left c.loop-tile.invariant tile (omega arith) c.tile-item.is here
    ∙ ap (λ (lines : List PageLine). slice_get lines left) (sym own) ∙ slice_get_read c.items-lines.result.now _ left line refl c.if-left-lines.true c.index-lines-left.is

pub loop-tile-preserved : goal.loop-tile-preserved
loop-tile-preserved c =
    let left = c.loop-tile.left in
    let tile = c.tile-item.result in
    let own : c.items-lines.result.now ≡ tile.pages = search rules in
    ahead_more c.args.tiles.now c.args.place c.loop-tile.tile-index left c.loop-tile.invariant tile (omega arith) c.tile-item.is (left - length c.items-lines.result.now) (omega (arith, ap length own))
