use Rattle.std.proofs.Common.{◌≡◌, ◌+◌, ◌<◌, [], drop, sym, ap, ◌∙◌, subst, arith}
use Rattle.std.specs.List.{find}
use Rattle.std.specs.Option.{option_map}
use Rattle.lethe_base.specs.declared.config.Fields.{Fields}
use Rattle.lethe_fade.specs.Candidates.{Candidate, is_free, merges_from}
use Rattle.lethe_fade.proofs.Chosen.{Step, level_step, merges-last, read_at}
use Rattle.lethe_fade.proofs.Expiring.{last_untimed, timed_merges, timed_result}
use Rattle.lethe_fade.proofs.expired.first_expired.Goals as goal

pub returns-then-is_some : goal.returns-then-is_some
returns-then-is_some c =
    let config = c.args.config.now in
    let levels = c.args.shape.now.levels in
    let level = c.loop-level.level in
    let count : c.fields.result.now.levels ≡ config.levels = ap (λ (f : Fields). f.levels) c.fields.ensures.fields in
    let step : Step (timed_merges config c.args.clock) levels (is_free c.args.claims.now) level c.first_in_level-plan.result =
    level_step (timed_merges config c.args.clock) levels (is_free c.args.claims.now) level c.items.result.now c.items-in-loop-level.result.now c.first_in_level-plan.result (omega (arith, count))
    (read_at c.items-levels.result.now levels level c.items.result.now c.index-levels-place.result c.items.ensures c.index-levels-place.is c.items-levels.ensures)
    (read_at c.items-levels.result.now levels (level + 1) c.items-in-loop-level.result.now c.index-levels-place-in-loop-level.result c.items-in-loop-level.ensures
    c.index-levels-place-in-loop-level.is c.items-levels.ensures)
    (timed_result config c.args.clock level c.items.result.now c.items-in-loop-level.result.now c.args.claims.now c.first_in_level-plan.result (omega (arith, count)) c.first_in_level-plan.ensures)
    in
    step.found (sym c.is_some.ensures ∙ c.if-is_some.true) ∙ ap (option_map (λ (candidate : Candidate). candidate.plan)) (sym c.loop-level.invariant)

pub loop-level-preserved : goal.loop-level-preserved
loop-level-preserved c =
    let config = c.args.config.now in
    let levels = c.args.shape.now.levels in
    let level = c.loop-level.level in
    let count : c.fields.result.now.levels ≡ config.levels = ap (λ (f : Fields). f.levels) c.fields.ensures.fields in
    let step : Step (timed_merges config c.args.clock) levels (is_free c.args.claims.now) level c.first_in_level-plan.result =
    level_step (timed_merges config c.args.clock) levels (is_free c.args.claims.now) level c.items.result.now c.items-in-loop-level.result.now c.first_in_level-plan.result (omega (arith, count))
    (read_at c.items-levels.result.now levels level c.items.result.now c.index-levels-place.result c.items.ensures c.index-levels-place.is c.items-levels.ensures)
    (read_at c.items-levels.result.now levels (level + 1) c.items-in-loop-level.result.now c.index-levels-place-in-loop-level.result c.items-in-loop-level.ensures
    c.index-levels-place-in-loop-level.is c.items-levels.ensures)
    (timed_result config c.args.clock level c.items.result.now c.items-in-loop-level.result.now c.args.claims.now c.first_in_level-plan.result (omega (arith, count)) c.first_in_level-plan.ensures)
    in
    c.loop-level.invariant ∙ step.later (sym c.is_some.ensures ∙ c.if-is_some.false)

pub returns : goal.returns
returns c =
    let some : 0 < c.args.config.now.levels = omega (arith, c.fields.ensures.limits.levels.0) in
    let last : c.args.config.now.levels ≡ c.loop-level.level = omega (arith, ap (λ (f : Fields). f.levels) c.fields.ensures.fields) in
    let none : merges_from (timed_merges c.args.config.now c.args.clock) c.loop-level.level (drop c.loop-level.level c.args.shape.now.levels) ≡ [] =
    merges-last (timed_merges c.args.config.now c.args.clock) c.args.shape.now.levels c.loop-level.level (c.requires ∙ ap (λ n. n + 1) last)
    (λ files next. subst (λ n. timed_merges c.args.config.now c.args.clock n files next ≡ []) last (last_untimed c.args.config.now c.args.clock files next))
    in
    sym (ap (option_map (λ (candidate : Candidate). candidate.plan)) (c.loop-level.invariant ∙ ap (find (is_free c.args.claims.now)) none))
