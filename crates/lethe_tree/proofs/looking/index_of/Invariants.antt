use Rattle.lethe_tree.specs.Shape.{Shape}
use Rattle.lethe_tree.specs.Looked.{MayLook}
use Rattle.lethe_tree.proofs.Looked.{IsLooking}
use Rattle.lethe_tree.proofs.looking.index_of.Given as goal

abbrev pub invariant-loop-left : goal.invariant-loop-left
invariant-loop-left g l = (t : Shape) → MayLook l.links l.entries l.fn.from t → IsLooking l.links l.entries l.key t l.at l.left l.steps l.fn.steps

abbrev pub decreases-loop-left : goal.decreases-loop-left
decreases-loop-left g l = l.left
