use Rattle.std.proofs.Common.{◌≡◌, ◌+◌, ◌<◌, [], length, drop, sym, ap, ◌∙◌, subst, arith}
use Rattle.std.specs.Option.{is_some}
use Rattle.lethe_base.specs.declared.config.Fields.{Fields}
use Rattle.lethe_base.specs.declared.shape.Shape.{Shape}
use Rattle.lethe_fade.specs.Expired.{expired_from}
use Rattle.lethe_orders.specs.Standing.{StandFor}
use Rattle.lethe_orders.proofs.Firsts.{LevelStep, file_of_first, last_none, level_told}
use Rattle.lethe_orders.proofs.orders.Orders.is_due.Goals as goal

pub loop-level-preserved : goal.loop-level-preserved
loop-level-preserved g c =
    let config = c.args.config.now in
    let level = c.loop-level.level in
    let here : level < config.levels = omega (arith, c.loop-level-test.true, ap (λ (f : Fields). f.levels) c.fields.ensures.fields) in
    let step : (shape : Shape) → StandFor shape c.args.self.now → length shape.levels ≡ config.levels + 1 → LevelStep config c.args.to shape.levels level c.is_level_due.result =
    λ shape stand levels. level_told config c.args.to shape c.args.self.now c.lists-lists.result.now level c.is_level_due.result stand levels c.lists-lists.ensures here c.is_level_due.ensures.due
    in
    record {
      first = λ shape levels stand. c.loop-level.invariant.first shape levels stand ∙ ap file_of_first ((step shape stand levels).later c.if-is_level_due.false);
      few = omega (arith, c.is_level_due.ensures.few, c.loop-level.invariant.few);
    }

pub returns-then-is_level_due-clause-due : goal.returns-then-is_level_due-clause-due
returns-then-is_level_due-clause-due g c =
    let config = c.args.config.now in
    let level = c.loop-level.level in
    let here : level < config.levels = omega (arith, c.loop-level-test.true, ap (λ (f : Fields). f.levels) c.fields.ensures.fields) in
    let step : (shape : Shape) → StandFor shape c.args.self.now → length shape.levels ≡ config.levels + 1 → LevelStep config c.args.to shape.levels level c.is_level_due.result =
    λ shape stand levels. level_told config c.args.to shape c.args.self.now c.lists-lists.result.now level c.is_level_due.result stand levels c.lists-lists.ensures here c.is_level_due.ensures.due
    in
    λ shape levels stand.
    sym (ap is_some (c.loop-level.invariant.first shape levels stand ∙ (step shape stand levels).first c.if-is_level_due.true) ∙ (step shape stand levels).some c.if-is_level_due.true)

pub returns-clause-due : goal.returns-clause-due
returns-clause-due g c =
    let config = c.args.config.now in
    let last : config.levels ≡ c.loop-level.level = omega (arith, ap (λ (f : Fields). f.levels) c.fields.ensures.fields, c.loop-level.auto.level-end, c.loop-level-test.false) in
    λ shape levels stand.
    let none = subst (λ n. expired_from config c.args.to n (drop n shape.levels) ≡ []) last (last_none config c.args.to shape.levels levels) in
    sym (ap is_some (c.loop-level.invariant.first shape levels stand ∙ ap file_of_first none))
