use Rattle.std.proofs.Common.{◌∙◌, ap, Some, arith}
use Rattle.lethe_tree.proofs.Rotations.{height_le-size}
use Rattle.lethe_tree.proofs.Written.{same_set, other_set, link_is}
use Rattle.lethe_tree.proofs.link.join.Goals as goal

pub returns : goal.returns
returns c = record {
  there = λ l r ll lr le re few.
      let a = c.height_at.ensures l ll le in
      let b = c.height_at-2.ensures r lr re in
      let d = c.size_at.ensures l ll le in
      let e = c.size_at-2.ensures r lr re in
      let x = height_le-size l in
      let y = height_le-size r in
      same_set _ _ _ c.requires ∙ ap Some (link_is _ _ _ _ l r le re (let m = c.max-height.ensures in let n = c.saturating_add.ensures in grind arith) (let m = c.saturating_add-size.ensures in let n = c.saturating_add-2.ensures in omega arith));
  beside = λ i other. other_set _ _ i _ other;
}
