use Rattle.lethe_base.proofs.LayoutLaws.{new_is_valid}
use Rattle.lethe_base.proofs.covering.new_shape_is_valid.Goals as goal

pub returns : goal.returns
returns c = new_is_valid
