use Rattle.lethe_sweep.proofs.Lawful.{are_held}
use Rattle.lethe_sweep.proofs.laws.no_key_leaves_its_tile.Goals as goal

pub returns : goal.returns
returns c = λ alone erase tiles bytes swept agrees is. are_held alone erase tiles bytes agrees swept is
