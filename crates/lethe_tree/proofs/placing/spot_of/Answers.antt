use Rattle.std.proofs.Common.{sym, ap, ◌∙◌, subst}
use Rattle.lethe_tree.specs.Shape.{order}
use Rattle.lethe_tree.specs.Looked.{IsFound, is_behind}
use Rattle.lethe_tree.proofs.placing.spot_of.Goals as goal

pub returns-then-is_behind : goal.returns-then-is_behind
returns-then-is_behind g c = λ t may last. ap (is_behind c.args.entries.now c.args.key.now) (sym last) ∙ (sym c.is_behind.ensures ∙ c.if-is_behind.true)

pub returns-in-Some : goal.returns-in-Some
returns-in-Some g c = λ t may last. subst (IsFound c.args.entries.now c.args.key.now (order t)) c.in-Some.is (c.index_of.ensures.found t may)

pub returns : goal.returns
returns g c = λ t may last. (
  ap (is_behind c.args.entries.now c.args.key.now) (sym last) ∙ (sym c.is_behind.ensures ∙ c.if-is_behind.false),
  subst (IsFound c.args.entries.now c.args.key.now (order t)) c.in-None.is (c.index_of.ensures.found t may),
)
