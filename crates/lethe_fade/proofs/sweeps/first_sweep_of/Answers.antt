use Rattle.std.proofs.Common.{refl, sym, ap, ◌∙◌}
use Rattle.std.specs.Option.{option_map}
use Rattle.lethe_fade.specs.Candidates.{Candidate, is_free}
use Rattle.lethe_fade.proofs.Chosen.{read_at}
use Rattle.lethe_fade.proofs.Sweeping.{sweep_step}
use Rattle.lethe_fade.proofs.sweeps.first_sweep_of.Goals as goal

pub returns-then-is_some : goal.returns-then-is_some
returns-then-is_some c =
    let levels = c.args.levels.now in
    let here = read_at levels levels c.loop-level.level c.items.result.now c.index-levels-level.result c.items.ensures c.index-levels-level.is refl in
    let step =
    sweep_step (is_free c.args.claims.now) c.args.place levels c.loop-level.level c.items.result.now c.oldest_unswept-plan.result c.loop-level-test.true here
    c.oldest_unswept-plan.ensures
    in
    step.found (sym c.is_some.ensures ∙ c.if-is_some.true) ∙ ap (option_map (λ (candidate : Candidate). candidate.plan)) (sym c.loop-level.invariant)

pub loop-level-preserved : goal.loop-level-preserved
loop-level-preserved c =
    let levels = c.args.levels.now in
    let here = read_at levels levels c.loop-level.level c.items.result.now c.index-levels-level.result c.items.ensures c.index-levels-level.is refl in
    let step =
    sweep_step (is_free c.args.claims.now) c.args.place levels c.loop-level.level c.items.result.now c.oldest_unswept-plan.result c.loop-level-test.true here
    c.oldest_unswept-plan.ensures
    in
    c.loop-level.invariant ∙ step.later (sym c.is_some.ensures ∙ c.if-is_some.false)
