use Rattle.std.proofs.Common.{sym, ap, ◌∙◌, ◌-◌, refl, subst, arith}
use Rattle.std.specs.Option.{option_copied}
use Rattle.lethe_base.specs.Keys.{key_cmp}
use Rattle.lethe_tree.proofs.Written.{none_of}
use Rattle.lethe_tree.proofs.Looked.{IsLooking, begins, each_at_end, each_at_leaf, each_here, ends_here, few_counted, few_steps, found_here, goes_on, keyed, there}
use Rattle.lethe_tree.proofs.looking.index_of.Goals as goal

pub loop-left-init : goal.loop-left-init
loop-left-init g c = λ t may. begins c.args.links.now c.args.entries.now c.args.key.now t c.args.from c.args.steps.now may

pub returns-in_default-clause-few : goal.returns-in_default-clause-few
returns-in_default-clause-few g c = λ t may. few_steps c.args.links.now c.args.entries.now c.args.key.now t c.loop-left.at c.loop-left.left c.loop-left.steps c.args.steps.now may.balanced (c.loop-left.invariant t may)

pub returns-in_default-link_at-clause-found : goal.returns-in_default-link_at-clause-found
returns-in_default-link_at-clause-found g c = λ t may.
    absurd (there c.args.links.now c.args.entries.now c.args.key.now t c.loop-left.at c.loop-left.left c.loop-left.steps c.args.steps.now c.in-Some.here (c.loop-left.invariant t may) c.in-Some.is (sym c.link_at.ensures ∙ none_of c.link_at.result c.in_default-link_at.not-Some))

pub returns-in_default-link_at-clause-few : goal.returns-in_default-link_at-clause-few
returns-in_default-link_at-clause-few g c = λ t may. few_steps c.args.links.now c.args.entries.now c.args.key.now t c.loop-left.at c.loop-left.left c.loop-left.steps c.args.steps.now may.balanced (c.loop-left.invariant t may)

pub returns-in_default-entry_at-clause-found : goal.returns-in_default-entry_at-clause-found
returns-in_default-entry_at-clause-found g c = λ t may.
    absurd (keyed c.args.links.now c.args.entries.now c.args.key.now t c.loop-left.at c.loop-left.left c.loop-left.steps c.args.steps.now c.in-Some.here (c.loop-left.invariant t may) c.in-Some.is
    (sym c.entry_at.ensures ∙ ap option_copied (none_of c.entry_at.result c.in_default-entry_at.not-Some)))

pub returns-in_default-entry_at-clause-few : goal.returns-in_default-entry_at-clause-few
returns-in_default-entry_at-clause-few g c = λ t may. few_steps c.args.links.now c.args.entries.now c.args.key.now t c.loop-left.at c.loop-left.left c.loop-left.steps c.args.steps.now may.balanced (c.loop-left.invariant t may)

pub returns-in_default-side_of-clause-found : goal.returns-in_default-side_of-clause-found
returns-in_default-side_of-clause-found g c = λ t may.
    let e = c.in-Some-entry_at.entry.now in
    found_here c.args.links.now c.args.entries.now c.args.key.now t c.loop-left.at c.loop-left.left c.loop-left.steps c.args.steps.now c.in-Some.here e (c.loop-left.invariant t may) c.in-Some.is
    (sym c.entry_at.ensures ∙ ap option_copied c.in-Some-entry_at.is)
    (ends_here c.args.links.now c.args.entries.now c.args.key.now t c.loop-left.at c.loop-left.left c.loop-left.steps c.args.steps.now c.in-Some.here c.in-Some-link_at.link e (key_cmp c.args.key.now e.key) refl
    (sym c.side_of.ensures ∙ none_of c.side_of.result c.in_default-side_of.not-Some))

pub returns-in_default-side_of-clause-few : goal.returns-in_default-side_of-clause-few
returns-in_default-side_of-clause-few g c = λ t may.
    few_counted c.args.links.now c.args.entries.now c.args.key.now t c.loop-left.at c.loop-left.left c.loop-left.steps c.args.steps.now c.in-Some.here c.look.new.self may.balanced (c.loop-left.invariant t may) c.in-Some.is c.look.ensures

pub loop-left-preserved : goal.loop-left-preserved
loop-left-preserved g c = λ t may.
    let e = c.in-Some-entry_at.entry.now in
    subst (λ n. IsLooking c.args.links.now c.args.entries.now c.args.key.now t c.in-Some-side_of.side (c.loop-left.left - 1) n c.args.steps.now) (sym c.look.ensures)
    (goes_on c.args.links.now c.args.entries.now c.args.key.now t c.loop-left.at c.loop-left.left c.loop-left.steps c.args.steps.now c.in-Some.here c.in-Some-link_at.link e c.in-Some-side_of.side (key_cmp c.args.key.now e.key) (c.loop-left.invariant t may) c.in-Some.is
    (sym c.link_at.ensures ∙ c.in-Some-link_at.is) (sym c.entry_at.ensures ∙ ap option_copied c.in-Some-entry_at.is) refl (sym c.side_of.ensures ∙ c.in-Some-side_of.is))

pub returns-clause-few : goal.returns-clause-few
returns-clause-few g c = λ t may. few_steps c.args.links.now c.args.entries.now c.args.key.now t c.loop-left.at c.loop-left.left c.loop-left.steps c.args.steps.now may.balanced (c.loop-left.invariant t may)

pub returns-in_default-clause-each : goal.returns-in_default-clause-each
returns-in_default-clause-each g c = λ t may. each_at_leaf c.args.links.now c.args.entries.now c.args.key.now t c.loop-left.at c.loop-left.left c.loop-left.steps c.args.steps.now (c.loop-left.invariant t may) (none_of c.loop-left.at c.in_default.not-Some)

pub returns-in_default-link_at-clause-each : goal.returns-in_default-link_at-clause-each
returns-in_default-link_at-clause-each g c = λ t may.
    absurd (there c.args.links.now c.args.entries.now c.args.key.now t c.loop-left.at c.loop-left.left c.loop-left.steps c.args.steps.now c.in-Some.here (c.loop-left.invariant t may) c.in-Some.is (sym c.link_at.ensures ∙ none_of c.link_at.result c.in_default-link_at.not-Some))

pub returns-in_default-entry_at-clause-each : goal.returns-in_default-entry_at-clause-each
returns-in_default-entry_at-clause-each g c = λ t may.
    absurd (keyed c.args.links.now c.args.entries.now c.args.key.now t c.loop-left.at c.loop-left.left c.loop-left.steps c.args.steps.now c.in-Some.here (c.loop-left.invariant t may) c.in-Some.is
    (sym c.entry_at.ensures ∙ ap option_copied (none_of c.entry_at.result c.in_default-entry_at.not-Some)))

pub returns-in_default-side_of-clause-each : goal.returns-in_default-side_of-clause-each
returns-in_default-side_of-clause-each g c = λ t may.
    let e = c.in-Some-entry_at.entry.now in
    each_here c.args.links.now c.args.entries.now c.args.key.now t c.loop-left.at c.loop-left.left c.loop-left.steps c.args.steps.now c.in-Some.here e c.look.new.self (c.loop-left.invariant t may) c.in-Some.is
    (sym c.entry_at.ensures ∙ ap option_copied c.in-Some-entry_at.is)
    (ends_here c.args.links.now c.args.entries.now c.args.key.now t c.loop-left.at c.loop-left.left c.loop-left.steps c.args.steps.now c.in-Some.here c.in-Some-link_at.link e (key_cmp c.args.key.now e.key) refl
    (sym c.side_of.ensures ∙ none_of c.side_of.result c.in_default-side_of.not-Some)) c.look.ensures

pub returns-clause-each : goal.returns-clause-each
returns-clause-each g c = λ t may. each_at_end c.args.links.now c.args.entries.now c.args.key.now t c.loop-left.at c.loop-left.left c.loop-left.steps c.args.steps.now (c.loop-left.invariant t may) (omega (arith, c.loop-left-test.false))
