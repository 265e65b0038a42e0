use Rattle.std.proofs.Common.{sym, ap, ◌∙◌}
use Rattle.std.specs.Prelude.{slice_get}
use Rattle.lethe_base.specs.declared.config.Fields.{Fields}
use Rattle.lethe_fade.proofs.DueFirst.{due_expired, due_none, due_overdue, first_overdue, none_overdue}
use Rattle.lethe_fade.proofs.due.pick_due.Goals as goal

pub returns-then-is_some : goal.returns-then-is_some
returns-then-is_some c =
    due_expired c.args.config.now c.args.shape.now c.args.to c.first_expired-expired.result c.first_expired-expired.ensures (sym c.is_some.ensures ∙ c.if-is_some.true)

pub returns-in_err-erase : goal.returns-in_err-erase
returns-in_err-erase c =
    let early = none_overdue c.args.config.now c.args.to c.args.shape.now.erases (c.in_err-erase.ensures.value ∙ ap (λ erases. slice_get erases 0) c.items.ensures) in
    c.from_residual.ensures
    ∙ sym (due_none c.args.config.now c.args.shape.now c.args.to c.first_expired-expired.result c.first_expired-expired.ensures (sym c.is_some.ensures ∙ c.if-is_some.false) early)

pub returns-then-is_passed : goal.returns-then-is_passed
returns-then-is_passed c =
    let config = c.args.config.now in
    let tested =
    first_overdue config c.fields.result.now.threshold c.args.to c.args.shape.now.erases c.in_ok-erase.erase.now c.is_passed.result c.fields.ensures.limits
    (ap (λ (f : Fields). f.threshold) c.fields.ensures.fields) (c.in_ok-erase.ensures.value ∙ ap (λ erases. slice_get erases 0) c.items.ensures) (c.is_passed.ensures config)
    in
    c.first_sweep.ensures
    ∙ sym (due_overdue config c.args.shape.now c.args.to c.first_expired-expired.result c.first_expired-expired.ensures (sym c.is_some.ensures ∙ c.if-is_some.false)
    (tested ∙ c.if-is_passed.true))

pub returns-else-is_passed : goal.returns-else-is_passed
returns-else-is_passed c =
    let config = c.args.config.now in
    let tested =
    first_overdue config c.fields.result.now.threshold c.args.to c.args.shape.now.erases c.in_ok-erase.erase.now c.is_passed.result c.fields.ensures.limits
    (ap (λ (f : Fields). f.threshold) c.fields.ensures.fields) (c.in_ok-erase.ensures.value ∙ ap (λ erases. slice_get erases 0) c.items.ensures) (c.is_passed.ensures config)
    in
    sym (due_none config c.args.shape.now c.args.to c.first_expired-expired.result c.first_expired-expired.ensures (sym c.is_some.ensures ∙ c.if-is_some.false)
    (tested ∙ c.if-is_passed.false))
