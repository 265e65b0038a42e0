use Rattle.std.proofs.Common.{arith}
use Rattle.lethe_tree.proofs.Rotations.{level}
use Rattle.lethe_tree.proofs.settling.settle.Goals as goal

pub returns-else-right_height-saturating_add : goal.returns-else-right_height-saturating_add
returns-else-right_height-saturating_add c = λ l r ready.
    let a = c.height_at-left_height.ensures l ready.lies_left ready.left_is in
    let b = c.height_at-right_height.ensures r ready.lies_right ready.right_is in
    let d = c.saturating_add.ensures in
    let e = c.saturating_add-else-left_height-saturating_add.ensures in
    level c.args.links.now c.join.new.links c.args.left c.args.top c.args.right l r ready (omega (arith, c.if-left_height-saturating_add.false)) (omega (arith, c.if-right_height-saturating_add.false)) c.join.ensures
