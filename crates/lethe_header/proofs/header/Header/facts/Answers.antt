use Rattle.lethe_header.proofs.Lines.{have_few_entries}
use Rattle.lethe_header.proofs.header.Header.facts.Goals as goal

pub sum_all-oldest-requires-clause-tiles : goal.sum_all-oldest-requires-clause-tiles
sum_all-oldest-requires-clause-tiles c = rw c.items-tiles.ensures (have_few_entries c.args.self.now.tiles c.requires.tiles)
