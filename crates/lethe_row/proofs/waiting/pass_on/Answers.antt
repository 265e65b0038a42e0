use Rattle.std.proofs.Common.{◌≡◌, ◌≤◌, ◌+◌, ℕ, [], ◌∷◌, ◌++◌, Err, Some, length, refl, sym, ap, ◌∙◌, subst, arith}
use Rattle.std.specs.Prelude.{option_map}
use Rattle.lethe_base.specs.History.{History}
use Rattle.lethe_base.specs.declared.call.Call.{Call}
use Rattle.lethe_base.specs.declared.config.Fields.{Fields}
use Rattle.lethe_cover.specs.Steps.{with_done, with_failed}
use Rattle.lethe_stored.specs.Kept.{IsFor}
use Rattle.std.specs.FinMap.{insert}
use Rattle.lethe_disk.specs.Directory.{Directory}
use Rattle.lethe_disk.specs.Disk.{IsSynced}
use Rattle.lethe_chain.specs.Chains.{IsWaiting, waiting_bytes}
use Rattle.lethe_segment.specs.Records.{record_bytes}
use Rattle.lethe_manifest.specs.Manifests.{AreErases}
use Rattle.lethe_stored.specs.Left.{IsKeptOr}
use Rattle.lethe_stored.specs.Numbers.{GoesFrom}
use Rattle.lethe_stored.specs.Steps.{addition}
use Rattle.lethe_stored.specs.Stored.{Stored, appended, erase_of}
use Rattle.lethe_state.specs.Records.{IsNext, halted, pending_with}
use Rattle.lethe_state.specs.Waiting.{IsPrepared}
use Rattle.lethe_state.specs.declared.waiting.Waiting.{Waiting}
use Rattle.lethe_core.specs.Asked.{done_by, refused_to}
use Rattle.lethe_core.specs.Pinned.{AreKept}
use Rattle.lethe_core.specs.Running.{Holds, IsSound}
use Rattle.lethe_core.specs.StandsNow.{StandsNow}
use Rattle.lethe_core.specs.View.{View, view_of}
use Rattle.lethe_core.proofs.Hindered.{sound_halted}
use Rattle.lethe_core.proofs.Likes.{like_next, like_stands, with_state}
use Rattle.lethe_core.proofs.Recorded.{moved}
use Rattle.lethe_row.specs.Rests.{IsAtRest, IsCountedIn, at_rest}
use Rattle.lethe_row.proofs.Rests.{behind_there, ends_there, failed_there, kept_there, later_there, moments_still, moments_there, passed, passed_counted, passed_rest, rest_like, rest_still, rested_stands, sound_holds, waits_there}
use Rattle.lethe_row.proofs.waiting.pass_on.Goals as goal

-- There was no memory for the next record

pub returns-in_default-clause-stays : goal.returns-in_default-clause-stays
returns-in_default-clause-stays g c = λ d is same. (
  refl,
  c.prepare_behind.ensures.same,
  rest_like g.D.Disk.tells (view_of c.args.core.now) d c.args.waiting.now is c.prepare_behind.new.self c.prepare_behind.ensures.same c.prepare_behind.ensures.writable c.prepare_behind.ensures.front,
  λ config h stands. like_stands (at_rest (view_of c.args.core.now) d) c.prepare_behind.new.self c.prepare_behind.ensures.same config h stands is.runs,
)

pub returns-in_default-clause-any_moment : goal.returns-in_default-clause-any_moment
returns-in_default-clause-any_moment g c = λ told d is config h caller call stands with.
    let laws = g.met.D.Disk g.world.𝓛 g.world.𝓜 g.world.𝓡 ((λ s x. x), (λ x. x), (λ x. x), λ x. x) in
    moments_still g.D.Disk.tells (view_of c.args.core.now) d c.args.waiting.now is told (laws.itself told c.args.core.now.disk) config h caller call stands with

-- The next record is written behind the one that waits

pub append_next-requires-after_bounds : goal.append_next-requires-after_bounds
append_next-requires-after_bounds g c κs within = λ told.
    let d = c.requires.rest.0 in
    let is = c.requires.rest.1 in
    let there = sound_holds g.D.Disk.tells (at_rest (view_of c.args.core.now) d) is.sound is.runs told in (
      addition there.0 c.args.waiting.now.record,
      addition (appended there.0 c.args.waiting.now.record) c.args.next,
      waits_there g.D.Disk.tells (view_of c.args.core.now) d c.args.waiting.now is told c.prepare_behind.new.self c.prepare_behind.ensures.same c.active_segment-segment.result c.active_segment-segment.ensures c.end-gate.result c.end-gate.ensures there.0 there.1,
      ends_there g.D.Disk.tells (view_of c.args.core.now) d c.args.waiting.now is told c.prepare_behind.new.self c.prepare_behind.ensures.same c.active_segment-segment.result c.active_segment-segment.ensures c.end-gate.result c.end-gate.ensures there.0 there.1,
      behind_there g.D.Disk.tells (view_of c.args.core.now) d c.args.waiting.now is told c.prepare_behind.new.self c.prepare_behind.ensures.same c.active_segment-segment.result c.active_segment-segment.ensures c.end-gate.result c.end-gate.ensures there.0 there.1
          c.args.next c.deref.result.now c.requires.spelled c.requires.place (c.deref.ensures.value ∙ c.in-Ok.ensures.body),
    )

-- It waits, and the one that waited counts

pub returns-in-Ok-append_next-clause-passed : goal.returns-in-Ok-append_next-clause-passed
returns-in-Ok-append_next-clause-passed g c = λ d is done.
    let Tells = g.D.Disk.tells in
    let view = view_of c.args.core.now in
    let same = c.prepare_behind.ensures.same in
    let waiting = c.args.waiting.now in
    let disk = g.D.Disk.seen c.append_next.new.disk in
    let faults = g.D.Disk.faults c.append_next.new.disk in
    let next : Waiting = record { «record» = c.args.next; end = c.in-Ok.field-0.end; pending = c.in-Ok.field-0.pending } in
    let entered : IsNext waiting.record waiting.end view.state c.enter.new.self = like_next waiting.record waiting.end view.state c.prepare_behind.new.self c.enter.new.self same
    (subst (λ (front : Waiting). IsNext front.record front.end c.prepare_behind.new.self c.enter.new.self) c.replace-front.ensures.value c.enter.ensures.is) in
    let went : Tells → (s : Stored) → Holds (at_rest view d) s
    → (disk.directory ≡ insert view.disk.directory c.active_segment-segment.result (waiting_bytes (addition (appended s waiting.record) c.args.next))) × IsSynced disk
    × IsWaiting disk c.active_segment-segment.result waiting.end (addition (appended s waiting.record) c.args.next) = λ told s holds.
    let a = addition s waiting.record in
    let b = addition (appended s waiting.record) c.args.next in
    let waits = waits_there g.D.Disk.tells (view_of c.args.core.now) d c.args.waiting.now is told c.prepare_behind.new.self c.prepare_behind.ensures.same c.active_segment-segment.result c.active_segment-segment.ensures c.end-gate.result c.end-gate.ensures s holds in
    let ends = ends_there g.D.Disk.tells (view_of c.args.core.now) d c.args.waiting.now is told c.prepare_behind.new.self c.prepare_behind.ensures.same c.active_segment-segment.result c.active_segment-segment.ensures c.end-gate.result c.end-gate.ensures s holds in
    let follows = behind_there g.D.Disk.tells (view_of c.args.core.now) d c.args.waiting.now is told c.prepare_behind.new.self c.prepare_behind.ensures.same c.active_segment-segment.result c.active_segment-segment.ensures c.end-gate.result c.end-gate.ensures s holds
    c.args.next c.deref.result.now c.requires.spelled c.requires.place (c.deref.ensures.value ∙ c.in-Ok.ensures.body) in
    (c.in-Ok-append_next.ensures.done told a b waits ends follows, c.in-Ok-append_next.ensures.synced told, c.in-Ok-append_next.ensures.waits told a b waits ends follows) in
    let long : length c.in-Ok.field-0.body.items ≡ length (record_bytes c.args.next) = ap length c.in-Ok.ensures.body in
    let last = c.in-Ok.ensures.end in
    let taken = c.in-Ok.ensures.room in
    let left = c.enter.ensures.spare in
    let prepared : IsPrepared c.enter.new.self next = record {
      spelled = c.requires.spelled;
      pending = subst (λ pending. c.in-Ok.field-0.pending ≡ option_map (λ erase. pending ++ erase ∷ []) (erase_of c.args.next)) (sym entered.pending) c.in-Ok.ensures.pending;
      erases = subst (λ pending. AreErases (pending_with pending c.args.next)) (sym entered.pending) c.in-Ok.ensures.erases;
      room = omega (arith, taken, left);
    } in
    let long_enough : next.end ≡ waiting.end + 1 + length (record_bytes c.args.next) = omega (arith, long, last) in
    let segment = c.active_segment-segment.result in
    let named = c.active_segment-segment.ensures in
    let after = passed Tells view d waiting is c.prepare_behind.new.self same segment named disk faults c.enter.new.self entered next went in
    subst (λ (behind : Waiting). (behind.record ≡ c.args.next) × ((x : Directory) × IsAtRest Tells (moved view disk faults c.enter.new.self) x behind
    × IsCountedIn Tells waiting (at_rest view d) (at_rest (moved view disk faults c.enter.new.self) x))) (sym c.replace-front.ensures.after) (
      refl,
      (
        after,
        passed_rest Tells view d waiting is c.prepare_behind.new.self same segment named disk faults c.enter.new.self entered next went c.enter.ensures.writable c.requires.fits c.requires.room c.requires.place prepared long_enough,
        passed_counted Tells view d waiting is c.prepare_behind.new.self same segment named disk faults c.enter.new.self entered next went,
      ),
    )

pub returns-in-Ok-append_next-clause-any_moment : goal.returns-in-Ok-append_next-clause-any_moment
returns-in-Ok-append_next-clause-any_moment g c = λ told d is config h caller call stands with.
    moments_there g.D.Disk.tells (view_of c.args.core.now) d c.args.waiting.now is told c.prepare_behind.new.self c.prepare_behind.ensures.same c.active_segment-segment.result c.active_segment-segment.ensures c.end-gate.result c.end-gate.ensures
    (λ a. length (record_bytes a.next) + length c.deref.result.now + 3) (g.D.Disk.seen c.append_next.new.disk) (c.append_next.ensures.any_moment told) config h caller call stands with

pub returns-in-Ok-append_next-clause-pinned : goal.returns-in-Ok-append_next-clause-pinned
returns-in-Ok-append_next-clause-pinned g c = λ told.
    let d = c.requires.rest.0 in
    let is = c.requires.rest.1 in
    let laws = g.met.D.Disk g.world.𝓛 g.world.𝓜 g.world.𝓡 ((λ s x. x), (λ x. x), (λ x. x), λ x. x) in
    kept_there g.D.Disk.tells (view_of c.args.core.now) d c.args.waiting.now is told c.prepare_behind.new.self c.prepare_behind.ensures.same c.active_segment-segment.result c.active_segment-segment.ensures c.end-gate.result c.end-gate.ensures
    (λ a. length (record_bytes a.next) + length c.deref.result.now + 3) (g.D.Disk.seen c.append_next.new.disk) (c.append_next.ensures.any_moment told) (laws.itself told c.append_next.new.disk)

-- The disk failed

stopped_as : (g : _) (c : goal.Joined-next-3 g) → view_of c.stop.new.core ≡ moved (view_of c.args.core.now) (g.D.Disk.seen c.append_next.new.disk) (g.D.Disk.faults c.append_next.new.disk) (halted c.prepare_behind.new.self)
stopped_as g c = ap (view_of {D = g.row.D.Denot} {Page = g.row.D-Page.Denot} {Port = g.row.D-Port.Denot} {kind = g.D.Disk}) c.stop.ensures.state

-- at rest with the memory that was reserved
with_memory : (g : _) (c : goal.Joined-next-3 g) (d : Directory) → IsAtRest g.D.Disk.tells (view_of c.args.core.now) d c.args.waiting.now → IsAtRest g.D.Disk.tells (with_state (view_of c.args.core.now) c.prepare_behind.new.self) d c.args.waiting.now
with_memory g c d is = rest_like g.D.Disk.tells (view_of c.args.core.now) d c.args.waiting.now is c.prepare_behind.new.self c.prepare_behind.ensures.same c.prepare_behind.ensures.writable c.prepare_behind.ensures.front

pub returns-in-Err-Failed-clause-sound : goal.returns-in-Err-Failed-clause-sound
returns-in-Err-Failed-clause-sound g c =
    let mid = with_state (view_of c.args.core.now) c.prepare_behind.new.self in
    let d = c.requires.rest.0 in
    let is = with_memory g c d c.requires.rest.1 in
    let new = moved mid (g.D.Disk.seen c.append_next.new.disk) (g.D.Disk.faults c.append_next.new.disk) (halted mid.state) in
    subst (IsSound g.D.Disk.tells) (sym (stopped_as g c)) (sound_halted g.D.Disk.tells (at_rest mid d) new is.fits is.sound)

moments : (g : _) (c : goal.Joined-next-3 g) → g.D.Disk.tells → (d : Directory) → IsAtRest g.D.Disk.tells (view_of c.args.core.now) d c.args.waiting.now → (config : Fields) (h : History) (caller : ℕ) (call : Call)
    → (stands : StandsNow config h (at_rest (view_of c.args.core.now) d)) → IsFor (with_done h caller call) (appended stands.stored c.args.waiting.now.record)
    → GoesFrom c.args.core.now.state.next (IsKeptOr config h (Some (done_by caller call))) (g.D.Disk.seen c.args.core.now.disk) (g.D.Disk.seen c.append_next.new.disk)
moments g c told d is config h caller call stands with =
    moments_there g.D.Disk.tells (view_of c.args.core.now) d c.args.waiting.now is told c.prepare_behind.new.self c.prepare_behind.ensures.same c.active_segment-segment.result c.active_segment-segment.ensures c.end-gate.result c.end-gate.ensures
    (λ a. length (record_bytes a.next) + length c.deref.result.now + 3) (g.D.Disk.seen c.append_next.new.disk) (c.append_next.ensures.any_moment told) config h caller call stands with

pub returns-in-Err-Failed-clause-any_moment : goal.returns-in-Err-Failed-clause-any_moment
returns-in-Err-Failed-clause-any_moment g c = λ told d is config h caller call stands with.
    subst (λ (new : View). GoesFrom c.args.core.now.state.next (IsKeptOr config h (Some (done_by caller call))) (g.D.Disk.seen c.args.core.now.disk) new.disk) (sym (stopped_as g c))
    (moments g c told d is config h caller call stands with)

pub returns-in-Err-Failed-clause-stands : goal.returns-in-Err-Failed-clause-stands
returns-in-Err-Failed-clause-stands g c = λ told d is config h caller call change stands with.
    let view = view_of c.args.core.now in
    let same = c.prepare_behind.ensures.same in
    let mid = with_state view c.prepare_behind.new.self in
    let disk = g.D.Disk.seen c.append_next.new.disk in
    let faults = g.D.Disk.faults c.append_next.new.disk in
    let laws = g.met.D.Disk g.world.𝓛 g.world.𝓜 g.world.𝓡 ((λ s x. x), (λ x. x), (λ x. x), λ x. x) in
    subst (λ why. StandsNow config (refused_to h caller call why) (view_of c.stop.new.core)) (sym c.stop.ensures.is)
    (subst (λ (new : View). StandsNow config (with_failed h caller call c.args.before faults) new) (sym (stopped_as g c))
    (failed_there g.D.Disk.tells mid d c.args.waiting.now (with_memory g c d is) told config h caller call change (like_stands (at_rest view d) mid.state same config h stands is.runs) disk faults c.args.before faults
    (laws.itself told c.append_next.new.disk) (subst (λ n. GoesFrom n (IsKeptOr config h (Some (done_by caller call))) view.disk disk) (sym same.next) (moments g c told d is config h caller call stands with))))

pub returns-in-Err-Failed-clause-pinned : goal.returns-in-Err-Failed-clause-pinned
returns-in-Err-Failed-clause-pinned g c = λ told.
    let view = view_of c.args.core.now in
    let d = c.requires.rest.0 in
    let is = c.requires.rest.1 in
    let laws = g.met.D.Disk g.world.𝓛 g.world.𝓜 g.world.𝓡 ((λ s x. x), (λ x. x), (λ x. x), λ x. x) in
    subst (λ (new : View). AreKept view.pins.pins view.disk.directory new.disk.directory) (sym (stopped_as g c))
    (kept_there g.D.Disk.tells (view_of c.args.core.now) d c.args.waiting.now is told c.prepare_behind.new.self c.prepare_behind.ensures.same c.active_segment-segment.result c.active_segment-segment.ensures c.end-gate.result c.end-gate.ensures
    (λ a. length (record_bytes a.next) + length c.deref.result.now + 3) (g.D.Disk.seen c.append_next.new.disk) (c.append_next.ensures.any_moment told) (laws.itself told c.append_next.new.disk))

pub returns-in-Err-Failed-clause-numbers : goal.returns-in-Err-Failed-clause-numbers
returns-in-Err-Failed-clause-numbers g c = λ told.
    let view = view_of c.args.core.now in
    let d = c.requires.rest.0 in
    let is = c.requires.rest.1 in
    let next = c.prepare_behind.ensures.same.next in
    let later = later_there g.D.Disk.tells (view_of c.args.core.now) d c.args.waiting.now is told c.prepare_behind.new.self c.prepare_behind.ensures.same c.active_segment-segment.result c.active_segment-segment.ensures c.end-gate.result c.end-gate.ensures
    (λ a. length (record_bytes a.next) + length c.deref.result.now + 3) (g.D.Disk.seen c.append_next.new.disk) (c.append_next.ensures.any_moment told) in
    subst (λ (new : View). new.state.next + view.disk.moment ≤ view.state.next + new.disk.moment) (sym (stopped_as g c)) (omega (arith, later, next))

pub returns-in-Err-Failed-clause-drawn : goal.returns-in-Err-Failed-clause-drawn
returns-in-Err-Failed-clause-drawn g c =
    let next = c.prepare_behind.ensures.same.next in
    subst (λ (new : View). c.args.core.now.state.next ≤ new.state.next) (sym (stopped_as g c)) (omega (arith, next))

-- There was no memory to write it

pub returns-clause-stays : goal.returns-clause-stays
returns-clause-stays g c = λ d is done.
    let view = view_of c.args.core.now in
    let same = c.prepare_behind.ensures.same in
    let mid = with_state view c.prepare_behind.new.self in
    let disk = g.D.Disk.seen c.append_next.new.disk in
    let faults = g.D.Disk.faults c.append_next.new.disk in (
      refl,
      same,
      rest_still g.D.Disk.tells mid d c.args.waiting.now (rest_like g.D.Disk.tells view d c.args.waiting.now is c.prepare_behind.new.self same c.prepare_behind.ensures.writable c.prepare_behind.ensures.front) disk faults
          (λ told. c.in-Err-NoMemory.ensures.no_memory told (ap Err c.in-Err-NoMemory.field-0-is)),
      λ config h stands. rested_stands (at_rest mid d) disk.moment faults refl config h (like_stands (at_rest view d) c.prepare_behind.new.self same config h stands is.runs) (same.stopped ∙ is.runs),
    )

pub returns-clause-any_moment : goal.returns-clause-any_moment
returns-clause-any_moment g c = λ told d is config h caller call stands with.
    moments_there g.D.Disk.tells (view_of c.args.core.now) d c.args.waiting.now is told c.prepare_behind.new.self c.prepare_behind.ensures.same c.active_segment-segment.result c.active_segment-segment.ensures c.end-gate.result c.end-gate.ensures
    (λ a. length (record_bytes a.next) + length c.deref.result.now + 3) (g.D.Disk.seen c.append_next.new.disk) (c.append_next.ensures.any_moment told) config h caller call stands with
