use Rattle.std.proofs.Common.{sym, ◌∙◌, arith}
use Rattle.std.proofs.lemmas.Option.{slice_get_within}
use Rattle.lethe_tree.proofs.Rotations.{lean_left_once, lean_left_twice}
use Rattle.lethe_tree.proofs.settling.lean_left.Goals as goal

pub returns-then-height_at : goal.returns-then-height_at
returns-then-height_at c = λ l r ready high.
    lean_left_once c.args.links.now c.args.left c.args.top c.args.right c.in-Some.a c.in-Some-link_at.high c.height_at.result c.height_at-2.result c.join.new.links c.join-then-height_at.new.links l r ready high
    c.in-Some.is (sym c.link_at.ensures ∙ c.in-Some-link_at.is) c.height_at.ensures c.height_at-2.ensures c.if-height_at.true c.join.ensures c.join-then-height_at.ensures

pub join-requires-2 : goal.join-requires-2
join-requires-2 c = slice_get_within c.args.links.now c.in-Some.a c.in-Some-link_at.high (sym c.link_at.ensures ∙ c.in-Some-link_at.is)

pub join-requires-4 : goal.join-requires-4
join-requires-4 c = let a = slice_get_within c.args.links.now c.in-Some-right.b c.in-Some-link_at-2.inner (sym c.link_at-2.ensures ∙ c.in-Some-link_at-2.is) in omega (arith, a, c.join-2.auto.links, c.join-3.auto.links)

pub returns : goal.returns
returns c = λ l r ready high.
    lean_left_twice c.args.links.now c.args.left c.args.top c.args.right c.in-Some.a c.in-Some-link_at.high c.height_at.result c.height_at-2.result c.in-Some-right.b c.in-Some-link_at-2.inner
    c.join-2.new.links c.join-3.new.links c.join-4.new.links l r ready high c.in-Some.is (sym c.link_at.ensures ∙ c.in-Some-link_at.is) c.height_at.ensures c.height_at-2.ensures c.if-height_at.false
    c.in-Some-right.is (sym c.link_at-2.ensures ∙ c.in-Some-link_at-2.is) c.join-2.ensures c.join-3.ensures c.join-4.ensures
