use Rattle.std.proofs.Common.{◌≡◌, ◌≤◌}
use Rattle.lethe_tree.specs.Shape.{Shape, Lies, height, root_of}
use Rattle.lethe_tree.proofs.Placed.{IsSeeking}
use Rattle.lethe_tree.proofs.looking.index_at.Given as goal

abbrev pub invariant-loop-left : goal.invariant-loop-left
invariant-loop-left l = (t : Shape) → Lies l.links t → l.fn.from ≡ root_of t → height t ≤ 128 → IsSeeking l.links t l.place l.at l.left l.rest

abbrev pub decreases-loop-left : goal.decreases-loop-left
decreases-loop-left l = l.left
