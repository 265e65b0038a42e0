use Rattle.std.proofs.Common.{◌≡◌, ◌<◌, List, length, get_or, map, ap, sym, subst, arith, ◌∙◌}
use Rattle.std.specs.declared.alloc.Global.{Global}
use Rattle.std.specs.declared.sync.Arc.{Arc}
use Rattle.lethe_header.specs.declared.header.TileLine.{TileLine}
use Rattle.lethe_file.specs.Finding.{IsTileOf, allowed_in, of_tile}
use Rattle.lethe_file.proofs.Damaged.{found_damage, vouched_ok}
use Rattle.lethe_file.proofs.Tiles.{allowed_there, none_found, found_ok, of_tile-map, zip_there}
use Rattle.lethe_file.proofs.view.FileView.find.Goals as goal

pub returns-then-tile-tiles-clause-found : goal.returns-then-tile-tiles-clause-found
returns-then-tile-tiles-clause-found g c = λ told agree.
    let tiles = c.args.self.now.header.tiles in
    let key = c.args.key.now in
    let past : c.tile_of-tile.result ≡ length tiles = omega (arith, c.if-tile-tiles.true, ap length c.items-tiles.ensures) in
    let place : IsTileOf key tiles (length tiles) = subst (IsTileOf key tiles) past (rw c.items-tiles.ensures at c.tile_of-tile.ensures) in
    none_found (λ page. g.D.Disk.page_bytes page.value) tiles c.args.self.now.pages.items key agree place

pub returns-clause-found : goal.returns-clause-found
returns-clause-found g c = λ told agree.
    let tiles = c.args.self.now.header.tiles in
    let pages = c.args.self.now.pages.items in
    let key = c.args.key.now in
    let t = c.tile_of-tile.result in
    let tile = c.index-tiles-tile.result in
    let place : IsTileOf key tiles t = rw c.items-tiles.ensures at c.tile_of-tile.ensures in
    let inside : t < length tiles = omega (arith, place.0, c.if-tile-tiles.false, ap length c.items-tiles.ensures) in
    let lines = c.items.ensures ∙ ap (λ (ts : List TileLine). (get_or ts t tile).pages) c.items-tiles.ensures in
    let slice = c.part_of_tile-pages.ensures.part tile ∙ ap (λ (ts : List TileLine). of_tile ts t tile c.deref.result.now) c.items-tiles.ensures ∙ ap (of_tile tiles t tile) c.deref.ensures.value in
    found_ok (λ page. g.D.Disk.page_bytes page.value) tiles pages key agree t tile place inside c.items.result.now c.part_of_tile-pages.result.now lines slice c.find_in.result
    (c.find_in.ensures.found told (zip_there (λ page. g.D.Disk.page_bytes page.value) tiles pages key agree t tile place inside c.items.result.now c.part_of_tile-pages.result.now lines slice))

pub returns-clause-undamaged : goal.returns-clause-undamaged
returns-clause-undamaged g c = λ told agree name e.
    let tiles = c.args.self.now.header.tiles in
    let pages = c.args.self.now.pages.items in
    let key = c.args.key.now in
    let t = c.tile_of-tile.result in
    let tile = c.index-tiles-tile.result in
    let place : IsTileOf key tiles t = rw c.items-tiles.ensures at c.tile_of-tile.ensures in
    let inside : t < length tiles = omega (arith, place.0, c.if-tile-tiles.false, ap length c.items-tiles.ensures) in
    let lines = c.items.ensures ∙ ap (λ (ts : List TileLine). (get_or ts t tile).pages) c.items-tiles.ensures in
    let slice = c.part_of_tile-pages.ensures.part tile ∙ ap (λ (ts : List TileLine). of_tile ts t tile c.deref.result.now) c.items-tiles.ensures ∙ ap (of_tile tiles t tile) c.deref.ensures.value in
    c.find_in.ensures.undamaged told (zip_there (λ page. g.D.Disk.page_bytes page.value) tiles pages key agree t tile place inside c.items.result.now c.part_of_tile-pages.result.now lines slice) name e

pub returns-clause-fetches : goal.returns-clause-fetches
returns-clause-fetches g c =
    let tiles = c.args.self.now.header.tiles in
    let key = c.args.key.now in
    let t = c.tile_of-tile.result in
    let tile = c.index-tiles-tile.result in
    let place : IsTileOf key tiles t = rw c.items-tiles.ensures at c.tile_of-tile.ensures in
    let inside : t < length tiles = omega (arith, place.0, c.if-tile-tiles.false, ap length c.items-tiles.ensures) in
    let lines = c.items.ensures ∙ ap (λ (ts : List TileLine). (get_or ts t tile).pages) c.items-tiles.ensures in
    omega (arith, allowed_there key tiles t tile place inside, c.find_in.ensures.fetches, ap (allowed_in key) lines)

pub returns-clause-damaged : goal.returns-clause-damaged
returns-clause-damaged g c = λ name e.
    let bytes_of = λ (page : Arc g.row.D-Page.Denot Global). g.D.Disk.page_bytes page.value in
    let tiles = c.args.self.now.header.tiles in
    let pages = c.args.self.now.pages.items in
    let key = c.args.key.now in
    let t = c.tile_of-tile.result in
    let tile = c.index-tiles-tile.result in
    let place : IsTileOf key tiles t = rw c.items-tiles.ensures at c.tile_of-tile.ensures in
    let inside : t < length tiles = omega (arith, place.0, c.if-tile-tiles.false, ap length c.items-tiles.ensures) in
    let lines = c.items.ensures ∙ ap (λ (ts : List TileLine). (get_or ts t tile).pages) c.items-tiles.ensures in
    let slice = c.part_of_tile-pages.ensures.part tile ∙ ap (λ (ts : List TileLine). of_tile ts t tile c.deref.result.now) c.items-tiles.ensures ∙ ap (of_tile tiles t tile) c.deref.ensures.value in
    let bytes = ap (map bytes_of) slice ∙ sym (of_tile-map bytes_of tiles t tile pages) in
    let told = c.find_in.ensures.damaged name e in
    (found_damage g.D.Disk.tells name key tiles (map bytes_of pages) t tile place inside (rw (lines, bytes) at told.0), told.1)

pub returns-clause-vouched : goal.returns-clause-vouched
returns-clause-vouched g c =
    let tiles = c.args.self.now.header.tiles in
    let t = c.tile_of-tile.result in
    let tile = c.index-tiles-tile.result in
    let place : IsTileOf c.args.key.now tiles t = rw c.items-tiles.ensures at c.tile_of-tile.ensures in
    let inside : t < length tiles = omega (arith, place.0, c.if-tile-tiles.false, ap length c.items-tiles.ensures) in
    let lines = c.items.ensures ∙ ap (λ (ts : List TileLine). (get_or ts t tile).pages) c.items-tiles.ensures in
    vouched_ok c.args.key.now tiles t tile c.items.result.now c.find_in.result inside lines c.find_in.ensures.vouched
