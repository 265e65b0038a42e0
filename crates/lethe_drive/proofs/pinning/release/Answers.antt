use Rattle.std.proofs.Common.{◌≡◌, ◌<◌, inl, inr, length, refl, subst}
use Rattle.lethe_pins.specs.Held.{without}
use Rattle.lethe_core.specs.View.{view_of}
use Rattle.lethe_drive.specs.Moments.{moment_of, numbers_of}
use Rattle.lethe_drive.specs.Pins.{IsReleased}
use Rattle.lethe_drive.specs.declared.event.Reply.TheVariants as reply
use Rattle.lethe_drive.proofs.Among.{among, back, front, front_len, none_named, number_at}
use Rattle.lethe_drive.proofs.Certificates.{stands_call}
use Rattle.lethe_drive.proofs.Pins.{among_numbers, has_released, known_pinned, left_numbers, none_of, number_of}
use Rattle.lethe_drive.proofs.pinning.release.Goals as goal

pub returns-in_default-clause-step : goal.returns-in_default-clause-step
returns-in_default-clause-step g c = λ told config opened h answered stands s known fetches faults begun there.
    let snapshots = c.args.snapshots.now.items in
    let none = none_of snapshots c.args.number
    (none_named number_of c.args.number snapshots c.deref.result.now c.deref.ensures.value c.pin_place.result c.pin_place.ensures.first c.in_default.is) in
    (h, s, known, stands, inl (record { none = none; is = refl; history = refl; same = refl }))

pub returns-clause-step : goal.returns-clause-step
returns-clause-step g c = λ told config opened h answered stands s known fetches faults begun there.
    let old = view_of c.args.engine.now.core in
    let new = view_of c.release.new.self.core in
    let snapshots = c.args.snapshots.now.items in
    let place = c.in-Some.place in
    let within = subst (λ l. place < length l) c.deref.ensures.value c.in-Some.ensures.within in
    let snapshot = c.remove.result in
    let left = c.remove.new.self.items in
    let is = c.release.ensures in
    let pins = record old.pins { pins = without snapshot.pin.number old.pins.pins } in
    let same : new ≡ record old { pins = pins } = λ i. view_of (is.same i).core in
    let number : snapshot.pin.number ≡ c.args.number =
    number_at number_of c.args.number snapshots c.deref.result.now c.deref.ensures.value c.pin_place.result c.pin_place.ensures.first place c.in-Some.is (front snapshots place within) (back snapshots place within) snapshot
    (front_len snapshots place within) (among snapshots place within snapshot c.remove.ensures.value) in
    let gone = has_released h old new s fetches faults begun there (numbers_of snapshots) snapshot.pin.number (numbers_of (front snapshots place within)) (numbers_of (back snapshots place within))
    (among_numbers snapshots place within snapshot c.remove.ensures.value) same (numbers_of left) (left_numbers snapshots place within left c.remove.ensures.by_index.2) in (
      h,
      s,
      known_pinned config h old new s pins same (is.held told s) known,
      stands_call is.answers told config opened h answered stands,
      inr (subst (λ n. IsReleased n h (moment_of old s fetches faults begun there (numbers_of snapshots)) reply.Unit h (moment_of new s fetches faults begun there (numbers_of left))) number gone),
    )
