use Rattle.std.proofs.Common.{rules, ◌≡◌, ◌<◌, length, drop, get_or, ap, ◌∙◌, arith}
use Rattle.lethe_build.proofs.Numbering.{behind_turn, numbers_behind, pages_made, tiles_all, tiles_length, tiles_room, tiles_turn, written}
use Rattle.lethe_build.proofs.draft.with_numbers.Goals as goal

pub split_at-requires : goal.split_at-requires
split_at-requires c =
    let i = c.loop-tile.tile-index in
    let items = c.loop-tile.tile-items in
    let below : i < length items = omega arith in
    let own : c.items.result.now ≡ (get_or items i c.tile-item.result).pages = search rules in
    let room = tiles_room i c.args.numbers.now c.args.tiles items c.tile-item.result c.loop-tile.invariant.items c.tile-item.is below c.requires in
    omega (arith, ap length own, room, ap length c.loop-tile.invariant.behind)

pub loop-tile-preserved : goal.loop-tile-preserved
loop-tile-preserved c =
    let i = c.loop-tile.tile-index in
    let items = c.loop-tile.tile-items in
    let left = c.loop-tile.left.now in
    let behind = c.loop-tile.invariant.behind in
    let below : i < length items = omega arith in
    let pages = (get_or items i c.tile-item.result).pages in
    let own : c.replace-lines.result ≡ pages = search rules in
    let count : length c.items.result.now ≡ length pages = ap length (c.items.ensures ∙ own) in
    let made =
    pages_made c.number_lines.result c.replace-lines.result pages c.split_at.result.0.now left (numbers_behind i c.args.numbers.now c.args.tiles) (length c.items.result.now) c.number_lines.ensures own count c.split_at.ensures.front behind in
    record {
      items = tiles_turn i c.args.numbers.now c.args.tiles items c.tile-item.result c.loop-tile.invariant.items c.tile-item.is below c.number_lines.result made;
      behind =
          c.split_at.ensures.back ∙ ap (λ n. drop n left) count ∙ ap (drop (length pages)) behind
          ∙ behind_turn i c.args.numbers.now c.args.tiles items c.tile-item.result c.loop-tile.invariant.items c.tile-item.is below;
    }

pub returns : goal.returns
returns c =
    let i = c.loop-tile.tile-index in
    let all : i ≡ length c.args.tiles = omega (arith, ap length c.loop-tile.invariant.items, tiles_length i c.args.numbers.now c.args.tiles) in
    let long : c.into_vec-tiles.result.len ≡ length c.loop-tile.tile-items = omega (arith, c.into_vec-tiles.result.ok.0, ap length c.deref_mut-tile-items.ensures.value) in
    written _ c.loop-tile.tile-items c.into_vec-tiles.result.items c.into_vec-tiles.result.len c.of-2.ensures long ∙ c.loop-tile.invariant.items ∙ tiles_all i c.args.numbers.now c.args.tiles all
