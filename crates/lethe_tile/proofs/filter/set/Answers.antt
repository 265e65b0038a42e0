use Rattle.lethe_tile.proofs.Bits.{set_bit, words_fit}
use Rattle.lethe_tile.proofs.filter.set.Goals as goal

pub returns-clause-set : goal.returns-clause-set
returns-clause-set c bit = set_bit c.args.words.now c.args.place bit c.requires

pub returns-clause-words : goal.returns-clause-words
returns-clause-words c = words_fit c.args.words.now c.args.place c.requires
