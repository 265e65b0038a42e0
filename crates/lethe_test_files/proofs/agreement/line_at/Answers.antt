use Rattle.std.proofs.Common.{subst, sym}
use Rattle.lethe_header.specs.Headers.{IsLine}
use Rattle.lethe_agreement.proofs.HeaderLines.{tile_lines}
use Rattle.lethe_test_files.proofs.agreement.line_at.Goals as goal

pub returns : goal.returns
returns c =
    let line = c.index-items-place.result in
    let there = rw c.items.ensures at c.index-items-place.is in
    subst IsLine (sym there) (tile_lines c.args.tile.now c.requires.tile c.args.place line c.requires.place)
