use Rattle.lethe_base.proofs.Newest.{one_map}
use Rattle.lethe_base.proofs.covering.layout_has_one_map.Goals as goal

pub returns : goal.returns
returns c = one_map
