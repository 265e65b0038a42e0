use Rattle.std.proofs.Common.{◌≡◌, ◌+◌, ◌<◌, ◌≤◌, [], length, drop, get_or, sym, ap, ◌∙◌, subst, arith}
use Rattle.std.specs.Option.{is_some}
use Rattle.lethe_base.specs.declared.config.Fields.{Fields}
use Rattle.lethe_fade.specs.Expired.{expired_from}
use Rattle.lethe_orders.specs.Firsts.{lowest_expired}
use Rattle.lethe_orders.proofs.Firsts.{LevelStep, file_in_level, file_of_first, last_none, level_told, never_none, read_files}
use Rattle.lethe_orders.proofs.expired.first_expired.Goals as goal

pub loop-level-preserved : goal.loop-level-preserved
loop-level-preserved g c =
    let config = c.args.config.now in
    let level = c.loop-level.level in
    let here : level < config.levels = omega (arith, c.loop-level-test.true, ap (λ (f : Fields). f.levels) c.fields.ensures.fields) in
    let step : LevelStep config c.args.to c.args.shape.now.levels level c.is_level_due.result =
    level_told config c.args.to c.args.shape.now c.args.orders.now c.lists-lists.result.now level c.is_level_due.result c.requires.stand c.requires.levels c.lists-lists.ensures here c.is_level_due.ensures.due
    in
    record {
      first = c.loop-level.invariant.first ∙ ap file_of_first (step.later c.if-is_level_due.false);
      lowest = c.loop-level.invariant.lowest ∙ step.lower c.if-is_level_due.false;
      few = omega (arith, c.is_level_due.ensures.few, c.loop-level.invariant.few);
    }

pub returns-then-is_level_due-clause-first : goal.returns-then-is_level_due-clause-first
returns-then-is_level_due-clause-first g c =
    let config = c.args.config.now in
    let level = c.loop-level.level in
    let levels = c.args.shape.now.levels in
    let here : level < config.levels = omega (arith, c.loop-level-test.true, ap (λ (f : Fields). f.levels) c.fields.ensures.fields) in
    let step : LevelStep config c.args.to levels level c.is_level_due.result =
    level_told config c.args.to c.args.shape.now c.args.orders.now c.lists-lists.result.now level c.is_level_due.result c.requires.stand c.requires.levels c.lists-lists.ensures here c.is_level_due.ensures.due
    in
    let files : c.items.result.now ≡ get_or levels level [] =
    read_files levels c.items-levels.result.now level c.items.result.now c.index-levels-level.result (omega (arith, c.requires.levels, here)) c.items.ensures c.index-levels-level.is c.items-levels.ensures
    in
    c.oldest_file.ensures.first ∙ ap (file_in_level config c.args.to level) files ∙ sym (step.first c.if-is_level_due.true) ∙ sym c.loop-level.invariant.first

pub returns-then-is_level_due-clause-few : goal.returns-then-is_level_due-clause-few
returns-then-is_level_due-clause-few g c =
    let config = c.args.config.now in
    let level = c.loop-level.level in
    let levels = c.args.shape.now.levels in
    let here : level < config.levels = omega (arith, c.loop-level-test.true, ap (λ (f : Fields). f.levels) c.fields.ensures.fields) in
    let step : LevelStep config c.args.to levels level c.is_level_due.result =
    level_told config c.args.to c.args.shape.now c.args.orders.now c.lists-lists.result.now level c.is_level_due.result c.requires.stand c.requires.levels c.lists-lists.ensures here c.is_level_due.ensures.due
    in
    let files : c.items.result.now ≡ get_or levels level [] =
    read_files levels c.items-levels.result.now level c.items.result.now c.index-levels-level.result (omega (arith, c.requires.levels, here)) c.items.ensures c.index-levels-level.is c.items-levels.ensures
    in
    let long : length (lowest_expired config c.args.to 0 levels) ≡ length c.items.result.now = ap length (c.loop-level.invariant.lowest ∙ step.lowest c.if-is_level_due.true ∙ sym files) in
    omega (arith, c.oldest_file.ensures.few, c.is_level_due.ensures.few, c.loop-level.invariant.few, here, long)

pub returns-then-is_level_due-clause-none : goal.returns-then-is_level_due-clause-none
returns-then-is_level_due-clause-none g c =
    let config = c.args.config.now in
    let level = c.loop-level.level in
    let levels = c.args.shape.now.levels in
    let here : level < config.levels = omega (arith, c.loop-level-test.true, ap (λ (f : Fields). f.levels) c.fields.ensures.fields) in
    let step : LevelStep config c.args.to levels level c.is_level_due.result =
    level_told config c.args.to c.args.shape.now c.args.orders.now c.lists-lists.result.now level c.is_level_due.result c.requires.stand c.requires.levels c.lists-lists.ensures here c.is_level_due.ensures.due
    in
    let files : c.items.result.now ≡ get_or levels level [] =
    read_files levels c.items-levels.result.now level c.items.result.now c.index-levels-level.result (omega (arith, c.requires.levels, here)) c.items.ensures c.index-levels-level.is c.items-levels.ensures
    in
    never_none c.oldest_file.result (c.oldest_file.new.steps ≤ c.args.steps.now + config.levels)
    (ap is_some (c.oldest_file.ensures.first ∙ ap (file_in_level config c.args.to level) files) ∙ step.some c.if-is_level_due.true)

pub returns-clause-first : goal.returns-clause-first
returns-clause-first g c =
    let config = c.args.config.now in
    let levels = c.args.shape.now.levels in
    let last : config.levels ≡ c.loop-level.level = omega (arith, ap (λ (f : Fields). f.levels) c.fields.ensures.fields, c.loop-level.auto.level-end, c.loop-level-test.false) in
    let none = subst (λ n. expired_from config c.args.to n (drop n levels) ≡ []) last (last_none config c.args.to levels c.requires.levels) in
    sym (c.loop-level.invariant.first ∙ ap file_of_first none)
