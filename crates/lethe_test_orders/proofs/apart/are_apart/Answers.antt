use Rattle.std.proofs.Common.{◌∙◌, subst, All}
use Rattle.std.proofs.lemmas.List.{take_all}
use Rattle.std.proofs.lemmas.List.Elements.{All-more}
use Rattle.lethe_orders.specs.Standing.{HaveOtherNumbers}
use Rattle.lethe_test_orders.proofs.apart.are_apart.Goals as goal

pub loop-level-preserved : goal.loop-level-preserved
loop-level-preserved c =
    All-more HaveOtherNumbers c.args.levels.now c.loop-level.level-index c.level-item.result c.loop-level-test.true c.loop-level.invariant
    (subst HaveOtherNumbers (c.items.ensures ∙ c.level-item.is) (c.have_other_numbers.ensures c.if-not-have_other_numbers.false))

pub returns : goal.returns
returns c = λ is. subst (All HaveOtherNumbers) (take_all c.loop-level.level-index c.args.levels.now c.loop-level-test.false) c.loop-level.invariant
