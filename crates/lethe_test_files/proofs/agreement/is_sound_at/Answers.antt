use Rattle.std.proofs.Common.{subst, sym}
use Rattle.lethe_header.specs.Headers.{IsTile}
use Rattle.lethe_header.proofs.Lines.{are_tiles}
use Rattle.lethe_test_files.proofs.agreement.is_sound_at.Goals as goal

pub line_at-requires-clause-tile : goal.line_at-requires-clause-tile
line_at-requires-clause-tile g c =
    let header = c.args.header.now in
    let tile = c.index-items-0.result in
    let there = rw c.items.ensures at c.index-items-0.is in
    subst IsTile (sym there) (are_tiles header.tiles c.requires.tiles 0 tile c.requires.some)
