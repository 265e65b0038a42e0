use Rattle.std.proofs.Common.{◌≡◌, ◌≤◌, ◌<◌, ◌+◌, [], ◌∷◌, ◌++◌, Err, Some, length, refl, sym, ap, ◌∙◌, subst, arith}
use Rattle.std.specs.Prelude.{option_map}
use Rattle.lethe_base.specs.History.{History}
use Rattle.lethe_base.specs.Limits.{max_place}
use Rattle.lethe_base.specs.declared.config.Fields.{Fields}
use Rattle.lethe_commit.proofs.Placing.{refused_at_once}
use Rattle.lethe_cover.specs.Steps.{with_failed}
use Rattle.lethe_segment.specs.Records.{record_bytes}
use Rattle.lethe_manifest.specs.Manifests.{AreErases}
use Rattle.lethe_manifest.specs.declared.manifest.Manifest.{Manifest}
use Rattle.lethe_stored.specs.Kept.{IsKept}
use Rattle.lethe_stored.specs.Numbers.{GoesFrom}
use Rattle.lethe_stored.specs.Steps.{addition}
use Rattle.lethe_stored.specs.Stored.{erase_of}
use Rattle.lethe_state.specs.Records.{halted, pending_with}
use Rattle.lethe_state.specs.declared.waiting.Waiting.{Waiting}
use Rattle.lethe_core.specs.Asked.{done_by, refused_to}
use Rattle.lethe_core.specs.Pinned.{AreKept}
use Rattle.lethe_core.specs.StandsNow.{StandsNow}
use Rattle.lethe_core.specs.View.{View, view_of}
use Rattle.lethe_core.proofs.Likes.{like_sound, like_stands, with_state}
use Rattle.lethe_core.proofs.Recorded.{failed_left, moved}
use Rattle.lethe_core.proofs.Standing.{left_at_end, moments_or, sound_back, stands_back, stands_moments}
use Rattle.lethe_row.specs.Rests.{IsHeldBack, at_rest}
use Rattle.lethe_row.proofs.Rests.{first_held, first_ready, hold_kept, hold_later, hold_moments, one_held, ready_to_hold, rested_sound, rested_stands, sound_holds}
use Rattle.lethe_row.proofs.waiting.hold.Goals as goal

-- There was no memory for the record

pub returns-in_default-clause-stands : goal.returns-in_default-clause-stands
returns-in_default-clause-stands g c = λ told config h caller call change stands. like_stands (view_of c.args.core.now) c.prepare.new.self c.prepare.ensures.same config h stands c.requires.may.runs

pub returns-in_default-clause-any_moment : goal.returns-in_default-clause-any_moment
returns-in_default-clause-any_moment g c = λ told config h stands. stands_moments config h (view_of c.args.core.now) stands c.requires.may.runs c.requires.may.sound.writable

-- It is written behind the closed gate

pub append_first-requires-after_bounds : goal.append_first-requires-after_bounds
append_first-requires-after_bounds g c κs within = λ told.
    ready_to_hold g.D.Disk.tells (view_of c.args.core.now) c.requires.may.sound c.requires.may.runs told c.prepare.new.self c.prepare.ensures.same c.args.next c.requires.spelled c.requires.place
    c.active_segment-segment.result c.active_segment-segment.ensures c.end.result c.end.ensures c.deref.result.now (c.deref.ensures.value ∙ c.in-Ok.ensures.body)

-- It waits

pub returns-in-Ok-append_first-clause-waits : goal.returns-in-Ok-append_first-clause-waits
returns-in-Ok-append_first-clause-waits g c =
    let old = view_of c.args.core.now in
    let same = c.prepare.ensures.same in
    let mid = with_state old c.prepare.new.self in
    let disk = g.D.Disk.seen c.append_first.new.disk in
    let faults = g.D.Disk.faults c.append_first.new.disk in
    let waiting : Waiting = record { «record» = c.args.next; end = c.in-Ok.field-0.end; pending = c.in-Ok.field-0.pending } in
    let records = same.records in
    let buffer : mid.state.manifest.config.buffer ≡ old.state.manifest.config.buffer = ap (λ (m : Manifest). m.config.buffer) same.manifest in
    let room = c.requires.room in
    let laws = g.met.D.Disk g.world.𝓛 g.world.𝓜 g.world.𝓡 ((λ s x. x), (λ x. x), (λ x. x), λ x. x) in
    let sound = like_sound old c.prepare.new.self same g.D.Disk.tells c.prepare.ensures.writable c.requires.may.sound in (
      refl,
      record {
        sound = rested_sound mid disk.moment faults g.D.Disk.tells (λ told. laws.itself told c.args.core.now.disk) sound;
        runs = same.stopped ∙ c.requires.may.runs;
        fits = subst (λ n. n < max_place) (sym same.count) c.requires.may.fits;
        room = omega (arith, records, buffer, room);
        prepared = record {
          spelled = c.requires.spelled;
          pending = subst (λ pending. c.in-Ok.field-0.pending ≡ option_map (λ erase. pending ++ erase ∷ []) (erase_of c.args.next)) (sym same.pending) c.in-Ok.ensures.pending;
          erases = subst (λ pending. AreErases (pending_with pending c.args.next)) (sym same.pending) c.in-Ok.ensures.erases;
          room = c.in-Ok.ensures.room;
        };
        place = c.requires.place ∙ ap (λ n. n + 1) (sym same.count);
        held_back = λ told s holds.
            let there = sound_holds g.D.Disk.tells old c.requires.may.sound c.requires.may.runs told in
            let a = addition there.0 c.args.next in
            let is_ready = first_ready old c.prepare.new.self same there.0 there.1 c.args.next c.requires.spelled c.requires.place c.active_segment-segment.result c.active_segment-segment.ensures
            c.end.result c.end.ensures c.deref.result.now (c.deref.ensures.value ∙ c.in-Ok.ensures.body) in
            let long : length c.in-Ok.field-0.body.items ≡ length (record_bytes c.args.next) = ap length c.in-Ok.ensures.body in
            let gate = c.end.ensures in
            let first = same.end_is in
            let last = c.in-Ok.ensures.end in
            subst (IsHeldBack old.disk.directory disk mid.state.end waiting)
            (one_held old (at_rest (moved mid disk faults mid.state) old.disk.directory) there.0 s refl there.1 holds)
            (first_held old c.prepare.new.self same there.0 there.1 c.args.next c.requires.spelled c.requires.place c.active_segment-segment.result c.active_segment-segment.ensures c.end.result c.end.ensures
            c.in-Ok.field-0.end c.in-Ok.field-0.pending disk (c.in-Ok-append_first.ensures.waits told a is_ready) (c.in-Ok-append_first.ensures.done told a is_ready) (c.in-Ok-append_first.ensures.synced told)
            (omega (arith, long, gate, first, last)));
      },
    )

pub returns-in-Ok-append_first-clause-rests : goal.returns-in-Ok-append_first-clause-rests
returns-in-Ok-append_first-clause-rests g c = λ told config h stands.
    let old = view_of c.args.core.now in
    let same = c.prepare.ensures.same in
    let disk = g.D.Disk.seen c.append_first.new.disk in
    let laws = g.met.D.Disk g.world.𝓛 g.world.𝓜 g.world.𝓡 ((λ s x. x), (λ x. x), (λ x. x), λ x. x) in
    rested_stands (with_state old c.prepare.new.self) disk.moment (g.D.Disk.faults c.append_first.new.disk) (laws.itself told c.args.core.now.disk) config h
    (like_stands old c.prepare.new.self same config h stands c.requires.may.runs) (same.stopped ∙ c.requires.may.runs)

pub returns-in-Ok-append_first-clause-any_moment : goal.returns-in-Ok-append_first-clause-any_moment
returns-in-Ok-append_first-clause-any_moment g c = λ told config h stands.
    hold_moments g.D.Disk.tells (view_of c.args.core.now) c.requires.may.sound c.requires.may.runs told c.prepare.new.self c.prepare.ensures.same c.args.next c.requires.spelled c.requires.place
    c.active_segment-segment.result c.active_segment-segment.ensures c.end.result c.end.ensures c.deref.result.now (c.deref.ensures.value ∙ c.in-Ok.ensures.body)
    (length c.deref.result.now + 2) (g.D.Disk.seen c.append_first.new.disk) (c.append_first.ensures.any_moment told) (c.append_first.ensures.unopened told) config h stands

pub returns-in-Ok-append_first-clause-pinned : goal.returns-in-Ok-append_first-clause-pinned
returns-in-Ok-append_first-clause-pinned g c = λ told.
    let laws = g.met.D.Disk g.world.𝓛 g.world.𝓜 g.world.𝓡 ((λ s x. x), (λ x. x), (λ x. x), λ x. x) in
    hold_kept g.D.Disk.tells (view_of c.args.core.now) c.requires.may.sound c.requires.may.runs told c.prepare.new.self c.prepare.ensures.same c.args.next c.requires.spelled c.requires.place
    c.active_segment-segment.result c.active_segment-segment.ensures c.end.result c.end.ensures c.deref.result.now (c.deref.ensures.value ∙ c.in-Ok.ensures.body)
    (length c.deref.result.now + 2) (g.D.Disk.seen c.append_first.new.disk) (c.append_first.ensures.any_moment told) (laws.itself told c.append_first.new.disk)

-- The disk failed

stopped_as : (g : _) (c : goal.Joined-next-3 g) → view_of c.stop.new.core ≡ moved (view_of c.args.core.now) (g.D.Disk.seen c.append_first.new.disk) (g.D.Disk.faults c.append_first.new.disk) (halted c.prepare.new.self)
stopped_as g c = ap (view_of {D = g.row.D.Denot} {Page = g.row.D-Page.Denot} {Port = g.row.D-Port.Denot} {kind = g.D.Disk}) c.stop.ensures.state

moments : (g : _) (c : goal.Joined-next-3 g) → g.D.Disk.tells → (config : Fields) (h : History) → StandsNow config h (view_of c.args.core.now)
    → GoesFrom c.args.core.now.state.next (λ c'. IsKept config c' h) (g.D.Disk.seen c.args.core.now.disk) (g.D.Disk.seen c.append_first.new.disk)
moments g c told config h stands =
    hold_moments g.D.Disk.tells (view_of c.args.core.now) c.requires.may.sound c.requires.may.runs told c.prepare.new.self c.prepare.ensures.same c.args.next c.requires.spelled c.requires.place
    c.active_segment-segment.result c.active_segment-segment.ensures c.end.result c.end.ensures c.deref.result.now (c.deref.ensures.value ∙ c.in-Ok.ensures.body)
    (length c.deref.result.now + 2) (g.D.Disk.seen c.append_first.new.disk) (c.append_first.ensures.any_moment told) (c.append_first.ensures.unopened told) config h stands

pub returns-in-Err-Failed-clause-any_moment : goal.returns-in-Err-Failed-clause-any_moment
returns-in-Err-Failed-clause-any_moment g c = λ told config h stands.
    subst (λ (new : View). GoesFrom c.args.core.now.state.next (λ c'. IsKept config c' h) (g.D.Disk.seen c.args.core.now.disk) new.disk) (sym (stopped_as g c)) (moments g c told config h stands)

pub returns-in-Err-Failed-clause-stands : goal.returns-in-Err-Failed-clause-stands
returns-in-Err-Failed-clause-stands g c = λ told config h caller call change stands.
    let old = view_of c.args.core.now in
    let same = c.prepare.ensures.same in
    let mid = with_state old c.prepare.new.self in
    let disk = g.D.Disk.seen c.append_first.new.disk in
    let faults = g.D.Disk.faults c.append_first.new.disk in
    let fits : mid.state.count < max_place = subst (λ n. n < max_place) (sym same.count) c.requires.may.fits in
    let laws = g.met.D.Disk g.world.𝓛 g.world.𝓜 g.world.𝓡 ((λ s x. x), (λ x. x), (λ x. x), λ x. x) in
    let change' = Some (done_by caller call) in
    let left = left_at_end config h change' old.disk disk (laws.itself told c.append_first.new.disk) (moments_or config h change' old.state.next old.disk disk (moments g c told config h stands)).goes in
    subst (λ why. StandsNow config (refused_to h caller call why) (view_of c.stop.new.core)) (sym c.stop.ensures.is)
    (subst (λ (view : View). StandsNow config (with_failed h caller call c.args.before faults) view) (sym (stopped_as g c))
    (failed_left config h mid (like_stands old c.prepare.new.self same config h stands c.requires.may.runs) (same.stopped ∙ c.requires.may.runs) fits disk faults caller call change c.args.before faults left))

pub returns-in-Err-Failed-clause-pinned : goal.returns-in-Err-Failed-clause-pinned
returns-in-Err-Failed-clause-pinned g c = λ told.
    let old = view_of c.args.core.now in
    let laws = g.met.D.Disk g.world.𝓛 g.world.𝓜 g.world.𝓡 ((λ s x. x), (λ x. x), (λ x. x), λ x. x) in
    subst (λ (view : View). AreKept old.pins.pins old.disk.directory view.disk.directory) (sym (stopped_as g c))
    (hold_kept g.D.Disk.tells (view_of c.args.core.now) c.requires.may.sound c.requires.may.runs told c.prepare.new.self c.prepare.ensures.same c.args.next c.requires.spelled c.requires.place
    c.active_segment-segment.result c.active_segment-segment.ensures c.end.result c.end.ensures c.deref.result.now (c.deref.ensures.value ∙ c.in-Ok.ensures.body)
    (length c.deref.result.now + 2) (g.D.Disk.seen c.append_first.new.disk) (c.append_first.ensures.any_moment told) (laws.itself told c.append_first.new.disk))

pub returns-in-Err-Failed-clause-numbers : goal.returns-in-Err-Failed-clause-numbers
returns-in-Err-Failed-clause-numbers g c = λ told.
    let old = view_of c.args.core.now in
    let next = c.prepare.ensures.same.next in
    let later = hold_later g.D.Disk.tells (view_of c.args.core.now) c.requires.may.sound c.requires.may.runs told c.prepare.new.self c.prepare.ensures.same c.args.next c.requires.spelled c.requires.place
    c.active_segment-segment.result c.active_segment-segment.ensures c.end.result c.end.ensures c.deref.result.now (c.deref.ensures.value ∙ c.in-Ok.ensures.body)
    (length c.deref.result.now + 2) (g.D.Disk.seen c.append_first.new.disk) (c.append_first.ensures.any_moment told) in
    subst (λ (view : View). view.state.next + old.disk.moment ≤ old.state.next + view.disk.moment) (sym (stopped_as g c)) (omega (arith, later, next))

pub returns-in-Err-Failed-clause-drawn : goal.returns-in-Err-Failed-clause-drawn
returns-in-Err-Failed-clause-drawn g c =
    let next = c.prepare.ensures.same.next in
    subst (λ (view : View). c.args.core.now.state.next ≤ view.state.next) (sym (stopped_as g c)) (omega (arith, next))

-- There was no memory to write it

pub returns-clause-stands : goal.returns-clause-stands
returns-clause-stands g c = λ told config h caller call change stands.
    let mid = with_state (view_of c.args.core.now) c.prepare.new.self in
    let disk = g.D.Disk.seen c.append_first.new.disk in
    stands_back mid (moved mid disk (g.D.Disk.faults c.append_first.new.disk) c.prepare.new.self) (refused_at_once mid.disk disk (c.in-Err-NoMemory.ensures.no_memory told (ap Err c.in-Err-NoMemory.field-0-is))) config h refl
    (record { levels = refl; retired = refl; flights = refl; begun = refl; rounds = refl; pins = refl }) (like_stands (view_of c.args.core.now) c.prepare.new.self c.prepare.ensures.same config h stands c.requires.may.runs)

pub returns-clause-sound : goal.returns-clause-sound
returns-clause-sound g c =
    let old = view_of c.args.core.now in
    let mid = with_state old c.prepare.new.self in
    let disk = g.D.Disk.seen c.append_first.new.disk in
    sound_back g.D.Disk.tells mid (moved mid disk (g.D.Disk.faults c.append_first.new.disk) c.prepare.new.self) (λ told. refused_at_once mid.disk disk (c.in-Err-NoMemory.ensures.no_memory told (ap Err c.in-Err-NoMemory.field-0-is))) refl
    (record { levels = refl; retired = refl; flights = refl; begun = refl; rounds = refl; pins = refl }) (like_sound old c.prepare.new.self c.prepare.ensures.same g.D.Disk.tells c.prepare.ensures.writable c.requires.may.sound)

pub returns-clause-any_moment : goal.returns-clause-any_moment
returns-clause-any_moment g c = λ told config h stands.
    hold_moments g.D.Disk.tells (view_of c.args.core.now) c.requires.may.sound c.requires.may.runs told c.prepare.new.self c.prepare.ensures.same c.args.next c.requires.spelled c.requires.place
    c.active_segment-segment.result c.active_segment-segment.ensures c.end.result c.end.ensures c.deref.result.now (c.deref.ensures.value ∙ c.in-Ok.ensures.body)
    (length c.deref.result.now + 2) (g.D.Disk.seen c.append_first.new.disk) (c.append_first.ensures.any_moment told) (c.append_first.ensures.unopened told) config h stands

pub returns-clause-untouched : goal.returns-clause-untouched
returns-clause-untouched g c = λ none. (
  c.prepare.ensures.same,
  λ told.
      (refused_at_once (view_of c.args.core.now).disk (g.D.Disk.seen c.append_first.new.disk) (c.in-Err-NoMemory.ensures.no_memory told (ap Err c.in-Err-NoMemory.field-0-is))).directory,
)
