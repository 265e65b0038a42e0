use Rattle.std.proofs.Common.{sym, ◌∙◌, arith}
use Rattle.std.specs.Option.{option_copied}
use Rattle.std.proofs.lemmas.Option.{slice_get_within}
use Rattle.lethe_tree.specs.Grown.{goes_left}
use Rattle.lethe_tree.proofs.Written.{none_of}
use Rattle.lethe_tree.proofs.Grown.{alone_grown, left_grown, right_grown}
use Rattle.lethe_tree.proofs.growing.+grow.Goals as goal

pub returns-in_default : goal.returns-in_default
returns-in_default n c = λ t may low. alone_grown c.args.links.now (goes_left c.args.entries.now (option_copied c.args.key)) c.args.from c.args.new t may (none_of c.args.from c.in_default.not-Some)

pub settle-requires : goal.settle-requires
settle-requires n c = let a = slice_get_within c.args.links.now c.in-Some.top c.in-Some-link_at.link (sym c.link_at.ensures ∙ c.in-Some-link_at.is) in omega (arith, a, c.grow-left.auto.links)

pub settle-requires-else-goes_left : goal.settle-requires-else-goes_left
settle-requires-else-goes_left n c = let a = slice_get_within c.args.links.now c.in-Some.top c.in-Some-link_at.link (sym c.link_at.ensures ∙ c.in-Some-link_at.is) in omega (arith, a, c.grow-right.auto.links)

pub returns-then-goes_left : goal.returns-then-goes_left
returns-then-goes_left n c = λ t may low.
    left_grown c.args.links.now c.grow-left.new.links c.settle.new.links (goes_left c.args.entries.now (option_copied c.args.key)) c.args.new c.in-Some.top c.grow-left.result c.settle.result c.args.depth c.args.from c.in-Some-link_at.link t may low
    c.in-Some.is (sym c.link_at.ensures ∙ c.in-Some-link_at.is) (sym c.goes_left.ensures ∙ c.if-goes_left.true) c.grow-left.ensures c.settle.ensures

pub returns-else-goes_left : goal.returns-else-goes_left
returns-else-goes_left n c = λ t may low.
    right_grown c.args.links.now c.grow-right.new.links c.settle-else-goes_left.new.links (goes_left c.args.entries.now (option_copied c.args.key)) c.args.new c.in-Some.top c.grow-right.result c.settle-else-goes_left.result c.args.depth c.args.from c.in-Some-link_at.link t may low
    c.in-Some.is (sym c.link_at.ensures ∙ c.in-Some-link_at.is) (sym c.goes_left.ensures ∙ c.if-goes_left.false) c.grow-right.ensures c.settle-else-goes_left.ensures
