use Rattle.std.proofs.Common.{◌≡◌, ◌<◌, ◌++◌, ◌∷◌, [], length, Ok, subst, arith, rules}
use Rattle.lethe_header.specs.Headers.{last_hi}
use Rattle.lethe_header.specs.Reading.{tile_at, tile_behind}
use Rattle.lethe_header.proofs.Loop.{one_more}
use Rattle.lethe_header.proofs.tile.read_tiles.Goals as goal

pub tiles-preserved : goal.tiles-preserved
tiles-preserved c =
    let fewer : length c.tiles.tiles.items < c.args.count = omega (arith, c.tiles-test.true, c.len.ensures) in
    let pushed : c.push.new.self.items ≡ c.tiles.tiles.items ++ c.in_ok-tile.tile ∷ [] = search rules in
    let read = subst (λ ts. tile_at (last_hi ts) c.args.bytes.now c.tiles.at ≡ Ok (c.in_ok-tile.tile, c.in_ok-tile.end)) c.deref.ensures.value c.in_ok-tile.ensures in
    rw pushed (one_more tile_behind c.args.count c.args.bytes.now 13 c.tiles.tiles.items c.tiles.at c.tiles.invariant c.in_ok-tile.tile c.in_ok-tile.end fewer read)
