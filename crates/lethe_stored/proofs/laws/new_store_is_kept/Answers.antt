use Rattle.lethe_stored.proofs.Firsts.{new_store}
use Rattle.lethe_stored.proofs.laws.new_store_is_kept.Goals as goal

pub returns : goal.returns
returns c = new_store
