use Rattle.lethe_stored.proofs.Firsts.{one_put}
use Rattle.lethe_stored.proofs.laws.one_put_is_kept.Goals as goal

pub returns : goal.returns
returns c = one_put
