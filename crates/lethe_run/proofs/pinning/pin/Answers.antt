use Rattle.std.proofs.Common.{◌≡◌, Some, None, Ok, refl, sym, ap, ◌∙◌, subst}
use Rattle.std.specs.Prelude.{slice_set}
use Rattle.std.specs.Result.{result_err}
use Rattle.lethe_base.specs.declared.call.Call.TheVariants.{Work}
use Rattle.lethe_core.specs.Asked.{Serves}
use Rattle.lethe_core.specs.View.{face_of, view_of}
use Rattle.lethe_engine.specs.Answers.{Answers}
use Rattle.lethe_engine.specs.Pins.{pinned_face}
use Rattle.lethe_bound.specs.Limits.{IsLimit}
use Rattle.lethe_stored.specs.Stored.{layout_of}
use Rattle.lethe_run.specs.Carried.{Limit}
use Rattle.lethe_run.specs.Holding.{pin_of, slots_of}
use Rattle.lethe_run.specs.Serving.{opened_in}
use Rattle.lethe_run.specs.Slots.{Pin}
use Rattle.lethe_run.proofs.Holding.{behind_free, held_set, pin_at, shown_now, shown_set, slots_set, ten_set}
use Rattle.lethe_run.proofs.Pinned.{looked, pin_served, pin_told}
use Rattle.lethe_run.proofs.Pins.{pins_more}
use Rattle.lethe_run.proofs.Seen.{seen_here}
use Rattle.lethe_run.proofs.pinning.pin.Goals as goal

pub returns-in-Ok-clause-told : goal.returns-in-Ok-clause-told
returns-in-Ok-clause-told g c =
    let old = view_of c.args.engine.now.core in
    let new = view_of c.pin.new.self.core in
    let is = c.in-Ok.ensures in
    let none_refused = subst (λ r. Answers g.D.Disk.tells (Serves Work) (result_err r) (pinned_face (face_of old) r) old new) c.in-Ok.is c.pin.ensures.answers in
    pin_told old new (λ i. (is.same i).core.state) (λ i. (view_of (is.same i).core).levels) g.D.Disk.ports_fail c.args.slot.now c.point-point.result c.number-number.result c.limit-limit.result
    (c.point-point.ensures ∙ is.point) (c.number-number.ensures ∙ is.number) (rw c.limit-limit.ensures (pins_more old new c.in-Ok.snapshot.pin.limit none_refused.face_is))

pub returns-in-Ok-clause-slots : goal.returns-in-Ok-clause-slots
returns-in-Ok-clause-slots g c =
    let held = c.args.slots.now.held.items in
    let left = c.hold.new.self.held.items in
    let slot = c.args.slot.now in
    let told : pin_of c.in-Ok.snapshot ≡ record { number = c.number-number.result; point = c.point-point.result; limit = c.limit-limit.result } =
    λ i. record { number = sym c.number-number.ensures i; point = sym c.point-point.ensures i; limit = sym c.limit-limit.ensures i } in
    (slot, refl, pin_at held slot None c.requires.free, slots_set held left slot (Some c.in-Ok.snapshot) c.hold.ensures.held ∙ ap (λ (pin : Pin). slice_set (slots_of held) slot (Some pin)) told)

pub returns-in-Ok-clause-served : goal.returns-in-Ok-clause-served
returns-in-Ok-clause-served g c = λ told begin from h caller on.
    let laws = g.met.D.Disk g.world.𝓛 g.world.𝓜 g.world.𝓡 ((λ s x. x), (λ x. x), (λ x. x), λ x. x) in
    let old = view_of c.args.engine.now.core in
    let new = view_of c.pin.new.self.core in
    let is = c.in-Ok.ensures in
    let none_refused = subst (λ r. Answers g.D.Disk.tells (Serves Work) (result_err r) (pinned_face (face_of old) r) old new) c.in-Ok.is c.pin.ensures.answers in
    pin_served g.D.Disk.ports_fail begin from h caller old new on (looked g.D.Disk.tells told begin from h old new on None (pinned_face (face_of old) (Ok c.in-Ok.snapshot)) none_refused refl) c.args.slot.now c.point-point.result c.number-number.result c.limit-limit.result
    (c.point-point.ensures ∙ is.point) (rw c.limit-limit.ensures (is.near told begin.config (opened_in begin from on.counted) h on.stands))
    (seen_here begin from h old on (laws.itself told c.args.engine.now.core.disk) c.point-point.result (c.point-point.ensures ∙ is.point) (Limit c.limit-limit.result)
    (λ s remembers. subst (IsLimit s.manifest.config.threshold (layout_of s)) (sym c.limit-limit.ensures) (is.limit s remembers)))

pub returns-in-Ok-clause-shown : goal.returns-in-Ok-clause-shown
returns-in-Ok-clause-shown g c = λ told begin from h on shown.
    let held = c.args.slots.now.held.items in
    let is = c.in-Ok.ensures in
    rw c.hold.ensures.held (shown_set held h c.args.slot.now (Some c.in-Ok.snapshot)
    (shown_now h c.in-Ok.snapshot (is.point ∙ on.stands.now.count) (is.of told begin.config (opened_in begin from on.counted) h on.stands)) shown)

pub returns-in-Ok-clause-ten : goal.returns-in-Ok-clause-ten
returns-in-Ok-clause-ten g c = ten_set c.args.slots.now.held.items c.hold.new.self.held.items c.args.slot.now (Some c.in-Ok.snapshot) c.hold.ensures.held c.requires.ten

pub returns-in-Ok-clause-slotted : goal.returns-in-Ok-clause-slotted
returns-in-Ok-clause-slotted g c =
    let held = c.args.slots.now.held.items in
    behind_free held c.args.slot.now _ c.requires.free ∙ ap Some (sym (held_set held c.hold.new.self.held.items c.args.slot.now (Some c.in-Ok.snapshot) c.hold.ensures.held))
