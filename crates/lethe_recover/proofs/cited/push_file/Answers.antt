use Rattle.std.proofs.Common.{◌≡◌, ◌∷◌, [], ◌++◌, map, take, ◌∙◌, append_assoc, arith}
use Rattle.std.proofs.lemmas.List.{take_all}
use Rattle.lethe_header.specs.Facts.{lines_of}
use Rattle.lethe_stored.specs.Files.{file_name}
use Rattle.lethe_recover.specs.Cited.{line_name}
use Rattle.lethe_recover.proofs.Names.{tile_more}
use Rattle.lethe_recover.proofs.cited.push_file.Goals as goal

pub loop-tile-preserved : goal.loop-tile-preserved
loop-tile-preserved c = tile_more c.push.new.self.items c.loop-tile.names.items c.push_pages.new.names.items c.items-tile-items.result.now c.loop-tile.tile-index c.tile-item.result c.items.result.now
    c.loop-tile-test.true c.tile-item.is c.items.ensures c.in_ok-push_pages.ensures c.loop-tile.invariant

pub returns : goal.returns
returns c =
    let tiles = c.items-tile-items.result.now in
    let all : take c.loop-tile.tile-index tiles ≡ c.args.header.now.tiles = take_all c.loop-tile.tile-index tiles (omega (arith, c.loop-tile-test.false)) ∙ c.items-tile-items.ensures in
    c.loop-tile.invariant ∙ (λ k. c.in_ok-push.ensures.items k ++ map line_name (lines_of (all k))) ∙ append_assoc c.args.names.now.items (file_name c.args.header.now.no ∷ []) (map line_name (lines_of c.args.header.now.tiles))
