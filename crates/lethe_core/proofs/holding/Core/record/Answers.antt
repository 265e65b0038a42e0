use Rattle.std.proofs.Common.{◌≡◌, ◌<◌, ◌+◌, Err, None, Some, length, refl, sym, ap, ◌∙◌, subst, arith}
use Rattle.lethe_base.specs.Limits.{max_place}
use Rattle.lethe_disk.specs.Directory.{object}
use Rattle.lethe_commit.specs.Append.{EndsAt, IsAppended, longer}
use Rattle.lethe_commit.proofs.Placing.{refused_at_once}
use Rattle.lethe_manifest.specs.Manifests.{AreErases}
use Rattle.lethe_follows.proofs.Behind.{later_appended}
use Rattle.lethe_manifest.specs.declared.manifest.Manifest.{Manifest}
use Rattle.lethe_stored.specs.Left.{IsKeptOr}
use Rattle.lethe_stored.specs.Numbers.{GoesFrom}
use Rattle.lethe_stored.specs.Steps.{addition}
use Rattle.lethe_cover.specs.Steps.{with_done, with_failed}
use Rattle.lethe_stored.specs.Stored.{appended, segment_name}
use Rattle.lethe_advance.proofs.Stayed.{came_now}
use Rattle.lethe_state.specs.Records.{pending_with}
use Rattle.lethe_state.specs.declared.state.State.{State}
use Rattle.lethe_advance.specs.Settled.{names_in}
use Rattle.lethe_core.specs.Asked.{done_by}
use Rattle.lethe_core.specs.Running.{Holds, IsSound}
use Rattle.lethe_core.specs.StandsNow.{StandsNow}
use Rattle.lethe_core.specs.View.{loose_in, names_beside, view_of}
use Rattle.lethe_core.proofs.Hindered.{drawn_on, flies_on, sound_halted}
use Rattle.lethe_core.proofs.Likes.{like_holds, like_next, like_small, like_sound, like_stands, next_small, with_state}
use Rattle.lethe_core.proofs.Recorded.{beside_segment, failed_stands, holds_longer, inserted, moments, moved, ready, record_kept, record_timely, untouched_moments}
use Rattle.lethe_core.proofs.Standing.{moments_or, open_stands, sound_back, stands_back, stands_for, stands_holds, stands_moments}
use Rattle.lethe_core.proofs.holding.Core.record.Goals as goal

pub append-requires-after_bounds : goal.append-requires-after_bounds
append-requires-after_bounds g c κs within = λ told.
    let old = view_of c.args.self.now in
    let held = c.requires.may.sound.held told in
    let holds : Holds old held.0 = record { remembers = held.1; running = held.2 c.requires.may.runs } in
    let same = c.prepare.ensures.same in (
      addition held.0 c.args.next,
      rw (sym c.end.ensures) at (ready (with_state old c.prepare.new.self) held.0 (like_holds old c.prepare.new.self same held.0 holds) c.args.next c.requires.spelled (c.requires.place ∙ ap (λ n. n + 1) (sym same.count))
          c.active_number-no.result c.active_number-no.ensures c.deref.result.now (c.deref.ensures.value ∙ c.in-Ok.ensures.body)),
    )

-- There was no memory for the record

pub returns-in_default-clause-sound : goal.returns-in_default-clause-sound
returns-in_default-clause-sound g c = like_sound (view_of c.args.self.now) c.prepare.new.self c.prepare.ensures.same g.D.Disk.tells c.prepare.ensures.writable c.requires.may.sound

pub returns-in_default-clause-stands : goal.returns-in_default-clause-stands
returns-in_default-clause-stands g c = λ told config h caller call change stands with. like_stands (view_of c.args.self.now) c.prepare.new.self c.prepare.ensures.same config h stands c.requires.may.runs

pub returns-in_default-clause-any_moment : goal.returns-in_default-clause-any_moment
returns-in_default-clause-any_moment g c = λ told config h caller call stands with.
    let old = view_of c.args.self.now in
    moments_or config h None old.state.next old.disk old.disk (stands_moments config h old stands c.requires.may.runs c.requires.may.sound.writable)

pub returns-in_default-clause-pinned : goal.returns-in_default-clause-pinned
returns-in_default-clause-pinned g c = λ told name named. refl

-- It was appended

pub returns-in-Ok-append-clause-written : goal.returns-in-Ok-append-clause-written
returns-in-Ok-append-clause-written g c = λ told s holds.
    let mid = with_state (view_of c.args.self.now) c.prepare.new.self in
    let disk = g.D.Disk.seen c.append.new.disk in
    let faults = g.D.Disk.faults c.append.new.disk in
    let same = c.prepare.ensures.same in
    let next = c.args.next in
    let number = c.active_number-no.result in
    let mid_holds = like_holds (view_of c.args.self.now) c.prepare.new.self same s holds in
    let place = c.requires.place ∙ ap (λ n. n + 1) (sym same.count) in
    let is_ready = rw (sym c.end.ensures) at (ready mid s mid_holds next c.requires.spelled place number c.active_number-no.ensures c.deref.result.now (c.deref.ensures.value ∙ c.in-Ok.ensures.body)) in
    let end_is : c.end.result + length c.deref.result.now + 1 ≡ c.in-Ok.field-0.end =
    ap (λ n. n + length c.deref.result.now + 1) (c.end.ensures ∙ same.end_is) ∙ ap (λ l. c.args.self.now.state.end + length l + 1) c.deref.ensures.value ∙ sym c.in-Ok.ensures.end in
    let done = c.in-Ok-append.ensures.done told (addition s next) is_ready in (
      holds_longer mid s mid_holds next c.requires.spelled place number c.active_number-no.ensures disk faults c.enter.new.self done c.in-Ok.field-0.end (c.in-Ok-append.ensures.synced told)
          (subst (EndsAt disk (segment_name number) s.active.no (longer (addition s next))) end_is (c.in-Ok-append.ensures.ready told (addition s next) is_ready)) c.enter.ensures.is
          (subst (λ pending. AreErases (pending_with pending next)) (sym same.pending) c.in-Ok.ensures.erases),
      inserted mid s mid_holds next c.requires.spelled place number c.active_number-no.ensures disk faults c.enter.new.self done,
    )

pub returns-in-Ok-append-clause-sound : goal.returns-in-Ok-append-clause-sound
returns-in-Ok-append-clause-sound g c =
    let sound = c.requires.may.sound in
    let like = c.prepare.ensures.same in
    let records = like.records in
    let drawn : c.enter.new.self.next ≡ c.args.self.now.state.next = c.enter.ensures.is.drawn ∙ like.next in
    let manifest = c.enter.ensures.is.manifest ∙ like.manifest in
    let buffer : c.prepare.new.self.manifest.config.buffer ≡ c.args.self.now.state.manifest.config.buffer = ap (λ (m : Manifest). m.config.buffer) like.manifest in
    let room : c.prepare.new.self.records < c.prepare.new.self.manifest.config.buffer = omega (arith, records, buffer, c.requires.room) in
    let old = view_of c.args.self.now in
    record {
      writable = c.enter.ensures.writable;
      small = next_small c.args.next c.in-Ok.field-0.end c.prepare.new.self c.enter.new.self c.enter.ensures.is room (like_small c.args.self.now.state c.prepare.new.self like sound.small);
      count = sound.count ∙ ap (λ (m : Manifest). m.config.levels + 1) (sym manifest);
      flights = sound.flights;
      flies = flies_on old.state c.enter.new.self (ap (λ (m : Manifest). m.config.levels) manifest) old.flights sound.flies;
      loose = drawn_on old.state.next c.enter.new.self.next (names_in (loose_in old.flights)) (omega (arith, drawn)) sound.loose;
      drawn = λ told. drawn_on old.state.next c.enter.new.self.next (names_beside old) (omega (arith, drawn)) (sound.drawn told);
      pins = sound.pins;
      pages = sound.pages;
      held = λ told.
          let held = sound.held told in
          let both = returns-in-Ok-append-clause-written g c told held.0 (record { remembers = held.1; running = held.2 c.requires.may.runs }) in
          (appended held.0 c.args.next, both.0.remembers, λ runs. both.0.running);
    }

pub returns-in-Ok-append-clause-entered : goal.returns-in-Ok-append-clause-entered
returns-in-Ok-append-clause-entered g c =
    (c.in-Ok.field-0.end, like_next c.args.next c.in-Ok.field-0.end c.args.self.now.state c.prepare.new.self c.enter.new.self c.prepare.ensures.same c.enter.ensures.is)

pub returns-in-Ok-append-clause-pinned : goal.returns-in-Ok-append-clause-pinned
returns-in-Ok-append-clause-pinned g c = λ told.
    let old = view_of c.args.self.now in
    let sound = c.requires.may.sound in
    let held = sound.held told in
    let both = returns-in-Ok-append-clause-written g c told held.0 (record { remembers = held.1; running = held.2 c.requires.may.runs }) in
    record_kept old held.0 c.args.next (g.D.Disk.seen c.append.new.disk).directory both.1 g.D.Disk.tells sound

pub returns-in-Ok-append-clause-stands : goal.returns-in-Ok-append-clause-stands
returns-in-Ok-append-clause-stands g c = λ told config h caller call change stands with.
    let old = view_of c.args.self.now in
    let both = returns-in-Ok-append-clause-written g c told stands.stored (stands_holds config h old stands c.requires.may.runs) in
    let holds = both.0 in
    open_stands config (with_done h caller call) (moved old (g.D.Disk.seen c.append.new.disk) (g.D.Disk.faults c.append.new.disk) c.enter.new.self) (appended stands.stored c.args.next)
    with.legal with.done (holds.running.current.count ∙ with.count) stands.config_is with holds stands.counted
    (later_appended h stands.stored (stands_for config h old stands c.requires.may.runs) stands.recorded c.args.next (let place = c.requires.place in let count = stands.count in omega (arith, place, count)))
    (record_timely old stands.stored c.args.next (g.D.Disk.seen c.append.new.disk).directory both.1 g.D.Disk.tells c.requires.may.sound told config.threshold h caller call
    (stands_for config h old stands c.requires.may.runs) with (stands.timely c.requires.may.runs))

pub returns-in-Ok-append-clause-any_moment : goal.returns-in-Ok-append-clause-any_moment
returns-in-Ok-append-clause-any_moment g c = λ told config h caller call stands with.
    let old = view_of c.args.self.now in
    let same = c.prepare.ensures.same in
    let mid = with_state old c.prepare.new.self in
    let mid_holds = like_holds old c.prepare.new.self same stands.stored (stands_holds config h old stands c.requires.may.runs) in
    let place = c.requires.place ∙ ap (λ n. n + 1) (sym same.count) in
    let number = c.active_number-no.result in
    let is_ready = rw (sym c.end.ensures) at (ready mid stands.stored mid_holds c.args.next c.requires.spelled place number c.active_number-no.ensures c.deref.result.now (c.deref.ensures.value ∙ c.in-Ok.ensures.body)) in
    let first : mid.state.next ≡ old.state.next = same.next in
    subst (λ n. GoesFrom n (IsKeptOr config h (Some (done_by caller call))) old.disk (g.D.Disk.seen c.append.new.disk)) first
    (moments mid stands.stored mid_holds c.args.next c.requires.spelled place number c.active_number-no.ensures h caller call (stands_for config h old stands c.requires.may.runs) with config stands.config_is
    c.prepare.ensures.writable (g.D.Disk.seen c.append.new.disk) (rw c.end.ensures at (c.append.ensures.any_moment told (addition stands.stored c.args.next) is_ready)))

-- The disk failed

pub returns-in-Err-Failed-clause-sound : goal.returns-in-Err-Failed-clause-sound
returns-in-Err-Failed-clause-sound g c =
    let same = c.prepare.ensures.same in
    let mid = with_state (view_of c.args.self.now) c.prepare.new.self in
    let new = moved mid (g.D.Disk.seen c.append.new.disk) (g.D.Disk.faults c.append.new.disk) c.stop-place.new.self in
    let fits : c.prepare.new.self.count < max_place = subst (λ n. n < max_place) (sym same.count) c.requires.may.fits in
    subst (λ (state : State). IsSound g.D.Disk.tells (moved mid new.disk new.faults state)) (sym c.stop-place.ensures.is)
    (sound_halted g.D.Disk.tells mid new fits (like_sound (view_of c.args.self.now) c.prepare.new.self same g.D.Disk.tells c.prepare.ensures.writable c.requires.may.sound))

pub returns-in-Err-Failed-clause-any_moment : goal.returns-in-Err-Failed-clause-any_moment
returns-in-Err-Failed-clause-any_moment g c = λ told config h caller call stands with.
    let old = view_of c.args.self.now in
    let same = c.prepare.ensures.same in
    let mid = with_state old c.prepare.new.self in
    let mid_holds = like_holds old c.prepare.new.self same stands.stored (stands_holds config h old stands c.requires.may.runs) in
    let place = c.requires.place ∙ ap (λ n. n + 1) (sym same.count) in
    let number = c.active_number-no.result in
    let is_ready = rw (sym c.end.ensures) at (ready mid stands.stored mid_holds c.args.next c.requires.spelled place number c.active_number-no.ensures c.deref.result.now (c.deref.ensures.value ∙ c.in-Ok.ensures.body)) in
    let first : mid.state.next ≡ old.state.next = same.next in
    subst (λ n. GoesFrom n (IsKeptOr config h (Some (done_by caller call))) old.disk (g.D.Disk.seen c.append.new.disk)) first
    (moments mid stands.stored mid_holds c.args.next c.requires.spelled place number c.active_number-no.ensures h caller call (stands_for config h old stands c.requires.may.runs) with config stands.config_is
    c.prepare.ensures.writable (g.D.Disk.seen c.append.new.disk) (rw c.end.ensures at (c.append.ensures.any_moment told (addition stands.stored c.args.next) is_ready)))

pub returns-in-Err-Failed-clause-stands : goal.returns-in-Err-Failed-clause-stands
returns-in-Err-Failed-clause-stands g c = λ told config h caller call change stands with.
    let old = view_of c.args.self.now in
    let same = c.prepare.ensures.same in
    let mid = with_state old c.prepare.new.self in
    let disk = g.D.Disk.seen c.append.new.disk in
    let faults = g.D.Disk.faults c.append.new.disk in
    let fits : c.prepare.new.self.count < max_place = subst (λ n. n < max_place) (sym same.count) c.requires.may.fits in
    let laws = g.met.D.Disk g.world.𝓛 g.world.𝓜 g.world.𝓡 ((λ s x. x), (λ x. x), (λ x. x), λ x. x) in
    subst (λ (state : State). StandsNow config (with_failed h caller call c.args.before c.faults.result) (moved mid disk faults state)) (sym c.stop-place.ensures.is)
    (failed_stands config h mid (like_stands old c.prepare.new.self same config h stands c.requires.may.runs) (same.stopped ∙ c.requires.may.runs) fits disk faults caller call change c.args.before c.faults.result
    (laws.itself told c.append.new.disk) (returns-in-Err-Failed-clause-any_moment g c told config h caller call stands with).goes)

pub returns-in-Err-Failed-clause-numbers : goal.returns-in-Err-Failed-clause-numbers
returns-in-Err-Failed-clause-numbers g c = λ told.
    let held = c.requires.may.sound.held told in
    let old = view_of c.args.self.now in
    let holds : Holds old held.0 = record { remembers = held.1; running = held.2 c.requires.may.runs } in
    let same = c.prepare.ensures.same in
    let is_ready = rw (sym c.end.ensures) at (ready (with_state old c.prepare.new.self) held.0 (like_holds old c.prepare.new.self same held.0 holds) c.args.next c.requires.spelled (c.requires.place ∙ ap (λ n. n + 1) (sym same.count))
    c.active_number-no.result c.active_number-no.ensures c.deref.result.now (c.deref.ensures.value ∙ c.in-Ok.ensures.body)) in
    let later = (c.append.ensures.any_moment told (addition held.0 c.args.next) is_ready).later in
    let next : c.stop-place.new.self.next ≡ c.args.self.now.state.next = ap (λ (state : State). state.next) c.stop-place.ensures.is ∙ same.next in
    omega (arith, later, next)

pub returns-in-Err-Failed-clause-pinned : goal.returns-in-Err-Failed-clause-pinned
returns-in-Err-Failed-clause-pinned g c = λ told.
    let held = c.requires.may.sound.held told in
    let old = view_of c.args.self.now in
    let holds : Holds old held.0 = record { remembers = held.1; running = held.2 c.requires.may.runs } in
    let same = c.prepare.ensures.same in
    let number = c.active_number-no.result in
    let is_ready = rw (sym c.end.ensures) at (ready (with_state old c.prepare.new.self) held.0 (like_holds old c.prepare.new.self same held.0 holds) c.args.next c.requires.spelled (c.requires.place ∙ ap (λ n. n + 1) (sym same.count))
    number c.active_number-no.ensures c.deref.result.now (c.deref.ensures.value ∙ c.in-Ok.ensures.body)) in
    let laws = g.met.D.Disk g.world.𝓛 g.world.𝓜 g.world.𝓡 ((λ s x. x), (λ x. x), (λ x. x), λ x. x) in
    let came = came_now (IsAppended (segment_name number) c.end.result (addition held.0 c.args.next)) old.disk (g.D.Disk.seen c.append.new.disk) holds.running.settled.synced
    (c.append.ensures.any_moment told (addition held.0 c.args.next) is_ready) (laws.itself told c.append.new.disk) in
    beside_segment g.D.Disk.tells old c.requires.may.sound (g.D.Disk.seen c.append.new.disk).directory number came.written.others

-- There was no memory to append it

pub returns-clause-pinned : goal.returns-clause-pinned
returns-clause-pinned g c = λ told name named. ap (λ d. object d name) (c.in-Err-NoMemory.ensures.no_memory told (ap Err c.in-Err-NoMemory.field-0-is)).directory

pub returns-clause-sound : goal.returns-clause-sound
returns-clause-sound g c =
    let mid = with_state (view_of c.args.self.now) c.prepare.new.self in
    let disk = g.D.Disk.seen c.append.new.disk in
    sound_back g.D.Disk.tells mid (moved mid disk (g.D.Disk.faults c.append.new.disk) c.prepare.new.self) (λ told. refused_at_once mid.disk disk (c.in-Err-NoMemory.ensures.no_memory told (ap Err c.in-Err-NoMemory.field-0-is))) refl
    (record { levels = refl; retired = refl; flights = refl; begun = refl; rounds = refl; pins = refl }) (like_sound (view_of c.args.self.now) c.prepare.new.self c.prepare.ensures.same g.D.Disk.tells c.prepare.ensures.writable c.requires.may.sound)

pub returns-clause-stands : goal.returns-clause-stands
returns-clause-stands g c = λ told config h caller call change stands with.
    let mid = with_state (view_of c.args.self.now) c.prepare.new.self in
    let disk = g.D.Disk.seen c.append.new.disk in
    stands_back mid (moved mid disk (g.D.Disk.faults c.append.new.disk) c.prepare.new.self) (refused_at_once mid.disk disk (c.in-Err-NoMemory.ensures.no_memory told (ap Err c.in-Err-NoMemory.field-0-is))) config h refl
    (record { levels = refl; retired = refl; flights = refl; begun = refl; rounds = refl; pins = refl }) (like_stands (view_of c.args.self.now) c.prepare.new.self c.prepare.ensures.same config h stands c.requires.may.runs)

pub returns-clause-any_moment : goal.returns-clause-any_moment
returns-clause-any_moment g c = λ told config h caller call stands with.
    let old = view_of c.args.self.now in
    let same = c.prepare.ensures.same in
    let mid = with_state old c.prepare.new.self in
    let mid_holds = like_holds old c.prepare.new.self same stands.stored (stands_holds config h old stands c.requires.may.runs) in
    let place = c.requires.place ∙ ap (λ n. n + 1) (sym same.count) in
    let number = c.active_number-no.result in
    let is_ready = rw (sym c.end.ensures) at (ready mid stands.stored mid_holds c.args.next c.requires.spelled place number c.active_number-no.ensures c.deref.result.now (c.deref.ensures.value ∙ c.in-Ok.ensures.body)) in
    let first : mid.state.next ≡ old.state.next = same.next in
    subst (λ n. GoesFrom n (IsKeptOr config h None) old.disk (g.D.Disk.seen c.append.new.disk)) first
    (untouched_moments mid stands.stored mid_holds c.args.next c.requires.spelled place number c.active_number-no.ensures config stands.config_is c.prepare.ensures.writable h (stands_for config h old stands c.requires.may.runs)
    (IsAppended (segment_name number) mid.state.end (addition stands.stored c.args.next)) (g.D.Disk.seen c.append.new.disk)
    (rw c.end.ensures at (c.append.ensures.any_moment told (addition stands.stored c.args.next) is_ready)) (c.in-Err-NoMemory.ensures.no_memory told (ap Err c.in-Err-NoMemory.field-0-is)))
