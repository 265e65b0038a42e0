use Rattle.std.proofs.Common.{length, arith, ap}
use Rattle.lethe_file.proofs.Pages.{pages_fit}
use Rattle.lethe_file.proofs.Starts.{lines_upto}
use Rattle.lethe_file.proofs.finding.part_of_tile.Goals as goal

pub split_at-requires : goal.split_at-requires
split_at-requires g c = omega (arith, lines_upto c.args.tiles.now c.args.place (omega (arith, c.requires.tile)), c.requires.start, c.requires.items)

pub split_at-requires-2 : goal.split_at-requires-2
split_at-requires-2 g c =
    let fit = pages_fit c.args.tiles.now c.args.place c.index-tiles-place.result c.requires.tile in
    omega (arith, fit, c.requires.start, c.requires.items, ap length c.items.ensures, c.split_at.ensures.back_len)
