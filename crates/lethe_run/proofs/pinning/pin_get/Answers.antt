use Rattle.std.proofs.Common.{◌≡◌, inr, Err, take, refl, sym, ap, ◌∙◌, subst, arith}
use Rattle.std.specs.Prelude.{IfOk}
use Rattle.lethe_base.specs.History.{after}
use Rattle.lethe_base.specs.Read.{answer}
use Rattle.lethe_base.specs.Read as answers
use Rattle.lethe_stored.specs.Left.{without_failed}
use Rattle.lethe_script.specs.declared.order.Act.TheVariants as acts
use Rattle.lethe_run.specs.Anywhere.{IsTold}
use Rattle.lethe_run.specs.Holding.{pin_of}
use Rattle.lethe_run.specs.Serving.{IsLookedUp}
use Rattle.lethe_run.specs.Slots.{InSlots}
use Rattle.lethe_run.proofs.Anywhere.{slot_unread_tells}
use Rattle.lethe_run.proofs.Outcomes.{ok_of}
use Rattle.lethe_run.proofs.Pinned.{slot_answer, slot_unread}
use Rattle.lethe_run.proofs.Staying.{slot_unread_stays}
use Rattle.lethe_run.proofs.pinning.pin_get.Goals as goal

pub returns-in-Ok-clause-told : goal.returns-in-Ok-clause-told
returns-in-Ok-clause-told g c = λ from upto s slot. (refl, refl, omega arith)

pub returns-in-Ok-clause-slots : goal.returns-in-Ok-clause-slots
returns-in-Ok-clause-slots g c = λ held slot there. (slot, c.args.key.now, refl, (pin_of c.args.snapshot.now, there, sym c.number.ensures, sym c.point.ensures), refl)

pub returns-in-Ok-clause-served : goal.returns-in-Ok-clause-served
returns-in-Ok-clause-served g c = λ told begin h caller slot faults moment shown.
    let snapshot = c.args.snapshot.now in
    let key = c.args.key.now in
    let held = c.in-Ok.held in
    let point = c.point.result in
    let given = ok_of (λ held. answer (after (without_failed (take snapshot.point h))) (answers.Get key) ≡ answers.Found held) c.get.result
    (c.get.ensures.answer told (without_failed (take snapshot.point h)) shown.shows) held c.in-Ok.is in
    (slot_answer h snapshot (answers.Get key) (answers.Found held) point c.point.ensures shown given, (omega (arith, shown.within, c.point.ensures), refl), refl, refl)

pub returns-in-Err-clause-told : goal.returns-in-Err-clause-told
returns-in-Err-clause-told g c = λ from upto s slot.
    let Ports = g.D.Disk.ports_fail in
    let act = acts.PinGet slot c.args.key.now in
    subst (λ r. IfOk r (λ reply. IsTold Ports from upto act s reply s)) (sym c.unread.ensures)
    (slot_unread_tells Ports from upto act s (inr refl) c.in-Err.why c.in-Err.ensures.why (λ before after is. c.get.ensures.can_fail before after (c.in-Err.is ∙ ap Err is)))

pub returns-in-Err-clause-slots : goal.returns-in-Err-clause-slots
returns-in-Err-clause-slots g c = λ held slot there. subst (λ r. IfOk r (λ reply. InSlots (acts.PinGet slot c.args.key.now) reply held held)) (sym c.unread.ensures) (slot_unread_stays (acts.PinGet slot c.args.key.now) held c.in-Err.why)

pub returns-in-Err-clause-served : goal.returns-in-Err-clause-served
returns-in-Err-clause-served g c = λ told begin h caller slot faults moment shown.
    let Ports = g.D.Disk.ports_fail in
    let act = acts.PinGet slot c.args.key.now in
    let snapshot = c.args.snapshot.now in
    subst (λ r. IfOk r (IsLookedUp Ports begin faults moment h caller act)) (sym c.unread.ensures)
    (slot_unread Ports begin faults moment h caller act (inr refl) c.in-Err.why c.in-Err.ensures.why (λ before after is. c.get.ensures.can_fail before after (c.in-Err.is ∙ ap Err is))
    (λ name is. c.get.ensures.undamaged told (without_failed (take snapshot.point h)) shown.shows name (c.in-Err.is ∙ ap Err is)))
