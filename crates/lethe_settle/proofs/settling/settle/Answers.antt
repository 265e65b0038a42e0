use Rattle.std.proofs.Common.{rules, ◌+◌, ◌<◌, Ok, [], ◌∷◌, ◌++◌, refl, sym, ap, ◌∙◌, arith, length-append}
use Rattle.lethe_settle.proofs.Chains.{one_more}
use Rattle.lethe_settle.proofs.settling.settle.Goals as goal

pub loop-preserved : goal.loop-preserved
loop-preserved g c =
    let so_far = c.loop.invariant in
    let ran : g.T.Tree.ran c.loop.tree c.in-Some.plan (Ok tt) c.run.new.self = search rules in
    record {
      sound = search rules;
      plans = so_far.plans ++ c.in-Some.plan ∷ [];
      runs = one_more g.T.Tree.due_in g.T.Tree.ran c.args.to c.args.tree.now c.loop.tree c.run.new.self so_far.plans c.in-Some.plan so_far.runs (sym c.due.ensures ∙ c.in-Some.is) ran;
      counted = length-append so_far.plans (c.in-Some.plan ∷ []) ∙ ap (λ n. n + 1) so_far.counted;
      beside = g.met.T.Tree.beside_then c.args.tree.now c.loop.tree c.run.new.self so_far.beside c.run.ensures.beside;
      fewer = λ told. let less : g.T.Tree.steps_in c.run.new.self < g.T.Tree.steps_in c.loop.tree = search rules in let before = so_far.fewer told in omega (arith, less, before);
    }

pub loop-init : goal.loop-init
loop-init g c = record { sound = c.requires.sound; plans = []; runs = refl; counted = refl; beside = g.met.T.Tree.beside_itself c.args.tree.now; fewer = λ told. omega arith }
