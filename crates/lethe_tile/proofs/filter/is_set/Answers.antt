use Rattle.lethe_tile.proofs.Bits.{tested}
use Rattle.lethe_tile.proofs.filter.is_set.Goals as goal

pub returns : goal.returns
returns c = tested c.args.words.now c.args.place c.requires
