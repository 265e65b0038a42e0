use Rattle.std.proofs.Common.{◌≡◌, Some, None, refl, sym, ap, ◌∙◌}
use Rattle.lethe_state.specs.declared.state.State.{State}
use Rattle.lethe_core.specs.Pins.{without_pin}
use Rattle.lethe_core.specs.View.{face_of, view_of}
use Rattle.lethe_run.specs.Holding.{pin_of}
use Rattle.lethe_run.proofs.Holding.{behind_held, held_set, pin_at, shown_set, slots_set, ten_set}
use Rattle.lethe_run.proofs.Pinned.{looked, unpin_served, unpin_told}
use Rattle.lethe_run.proofs.Pins.{pins_fewer}
use Rattle.lethe_run.proofs.pinning.unpin.Goals as goal

pub returns-clause-told : goal.returns-clause-told
returns-clause-told g c =
    let old = view_of c.args.engine.now.core in
    let new = view_of c.release.new.self.core in
    let snapshot = c.take-snapshot.result in
    let is = c.release.ensures in
    let state : new.state ≡ old.state = λ i. (is.same i).core.state in
    unpin_told old new state (λ i. (view_of (is.same i).core).levels) g.D.Disk.ports_fail c.args.slot.now c.count.result c.number-number.result (c.count.ensures ∙ ap (λ (state : State). state.count) state)
    (rw c.number-number.ensures (pins_fewer old new snapshot.pin.number is.answers.face_is))

pub returns-clause-slots : goal.returns-clause-slots
returns-clause-slots g c =
    let held = c.args.slots.now.held.items in
    let slot = c.args.slot.now in
    let snapshot = c.take-snapshot.result in
    (slot, refl, pin_of snapshot, pin_at held slot (Some snapshot) c.take-snapshot.ensures.was, sym c.number-number.ensures, slots_set held c.take-snapshot.new.self.held.items slot None c.take-snapshot.ensures.free)

pub returns-clause-served : goal.returns-clause-served
returns-clause-served g c = λ told begin from h caller on.
    let old = view_of c.args.engine.now.core in
    let new = view_of c.release.new.self.core in
    let is = c.release.ensures in
    unpin_served g.D.Disk.ports_fail begin from h caller old new on (looked g.D.Disk.tells told begin from h old new on None (without_pin (face_of old) c.take-snapshot.result.pin.number) is.answers refl) c.args.slot.now c.count.result c.number-number.result
    (c.count.ensures ∙ (λ i. (is.same i).core.state.count))

pub returns-clause-shown : goal.returns-clause-shown
returns-clause-shown g c = λ told h shown. rw c.take-snapshot.ensures.free (shown_set c.args.slots.now.held.items h c.args.slot.now None tt shown)

pub returns-clause-ten : goal.returns-clause-ten
returns-clause-ten g c = ten_set c.args.slots.now.held.items c.take-snapshot.new.self.held.items c.args.slot.now None c.take-snapshot.ensures.free c.requires.ten

pub returns-clause-slotted : goal.returns-clause-slotted
returns-clause-slotted g c =
    let held = c.args.slots.now.held.items in
    behind_held held c.args.slot.now _ c.requires.held ∙ ap Some (sym (held_set held c.take-snapshot.new.self.held.items c.args.slot.now None c.take-snapshot.ensures.free))
