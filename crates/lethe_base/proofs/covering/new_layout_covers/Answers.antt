use Rattle.lethe_base.proofs.LayoutLaws.{new_covers}
use Rattle.lethe_base.proofs.covering.new_layout_covers.Goals as goal

pub returns : goal.returns
returns c = new_covers
