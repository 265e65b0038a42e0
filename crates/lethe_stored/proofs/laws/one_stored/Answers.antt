use Rattle.lethe_stored.proofs.Unique as unique
use Rattle.lethe_stored.proofs.laws.one_stored.Goals as goal

pub returns : goal.returns
returns c = unique.one_stored
