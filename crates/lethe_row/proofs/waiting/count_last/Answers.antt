use Rattle.std.proofs.Common.{◌≡◌, ◌≤◌, ◌+◌, ℕ, Some, refl, sym, ap, subst, arith}
use Rattle.lethe_base.specs.History.{History}
use Rattle.lethe_base.specs.declared.call.Call.{Call}
use Rattle.lethe_base.specs.declared.config.Fields.{Fields}
use Rattle.lethe_disk.specs.Directory.{Directory}
use Rattle.lethe_cover.specs.Steps.{with_done, with_failed}
use Rattle.lethe_stored.specs.Kept.{IsFor}
use Rattle.lethe_stored.specs.Stored.{appended}
use Rattle.lethe_stored.specs.Left.{IsKeptOr}
use Rattle.lethe_stored.specs.Numbers.{GoesFrom}
use Rattle.lethe_stored.specs.Steps.{addition}
use Rattle.lethe_state.specs.Records.{halted}
use Rattle.lethe_core.specs.Asked.{done_by, refused_to}
use Rattle.lethe_core.specs.Pinned.{AreKept}
use Rattle.lethe_core.specs.Running.{IsSound}
use Rattle.lethe_core.specs.StandsNow.{StandsNow}
use Rattle.lethe_core.specs.View.{View, view_of}
use Rattle.lethe_core.proofs.Hindered.{like_of, sound_halted}
use Rattle.lethe_core.proofs.Recorded.{moved}
use Rattle.lethe_row.specs.Rests.{IsAtRest, at_rest}
use Rattle.lethe_row.proofs.Rests.{HasRecord, counted_in, counted_sound, failed_there, kept_there, later_there, moments_there, opened_there, waits_there}
use Rattle.lethe_row.proofs.waiting.count_last.Goals as goal

-- The record counts

has : (g : _) (c : goal.After-count g) (d : _) (is : IsAtRest g.D.Disk.tells (view_of c.args.core.now) d c.args.waiting)
    → HasRecord g.D.Disk.tells (at_rest (view_of c.args.core.now) d) c.args.waiting is.sound is.runs is.room is.place is.prepared (g.D.Disk.seen c.append_last.new.disk) (g.D.Disk.faults c.append_last.new.disk) c.enter.new.self c.enter.ensures.is
has g c d is = λ told s holds.
    let view = view_of c.args.core.now in
    let like = like_of view.state view.state refl in
    let a = addition s c.args.waiting.record in
    let waits = waits_there g.D.Disk.tells view d c.args.waiting is told view.state like c.active_segment-segment.result c.active_segment-segment.ensures c.end.result c.end.ensures s holds in
    opened_there g.D.Disk.tells view d c.args.waiting is told view.state like c.active_segment-segment.result c.active_segment-segment.ensures c.end.result c.end.ensures s holds (g.D.Disk.seen c.append_last.new.disk)
    (c.in-Ok.ensures.done told a waits) (c.in-Ok.ensures.synced told) (c.in-Ok.ensures.ready told a waits)

pub returns-in-Ok-clause-sound : goal.returns-in-Ok-clause-sound
returns-in-Ok-clause-sound g c =
    let d = c.requires.rest.0 in
    let is = c.requires.rest.1 in
    counted_sound g.D.Disk.tells (at_rest (view_of c.args.core.now) d) c.args.waiting is.sound is.runs is.room is.place is.prepared (g.D.Disk.seen c.append_last.new.disk) (g.D.Disk.faults c.append_last.new.disk)
    c.enter.new.self c.enter.ensures.is (has g c d is) c.enter.ensures.writable

pub returns-in-Ok-clause-counted : goal.returns-in-Ok-clause-counted
returns-in-Ok-clause-counted g c = λ d is.
    counted_in g.D.Disk.tells (at_rest (view_of c.args.core.now) d) c.args.waiting is.sound is.runs is.room is.place is.prepared (g.D.Disk.seen c.append_last.new.disk) (g.D.Disk.faults c.append_last.new.disk)
    c.enter.new.self c.enter.ensures.is (has g c d is)

pub returns-in-Ok-clause-stands : goal.returns-in-Ok-clause-stands
returns-in-Ok-clause-stands g c = λ told d is config h caller call change stands with. (returns-in-Ok-clause-counted g c d is).stands told config h caller call change stands with

pub returns-in-Ok-clause-any_moment : goal.returns-in-Ok-clause-any_moment
returns-in-Ok-clause-any_moment g c = λ told d is config h caller call stands with.
    let view = view_of c.args.core.now in
    moments_there g.D.Disk.tells view d c.args.waiting is told view.state (like_of view.state view.state refl) c.active_segment-segment.result c.active_segment-segment.ensures c.end.result c.end.ensures (λ a. 1) (g.D.Disk.seen c.append_last.new.disk)
    (λ a waits ends. c.append_last.ensures.any_moment told a waits) config h caller call stands with

pub returns-in-Ok-clause-pinned : goal.returns-in-Ok-clause-pinned
returns-in-Ok-clause-pinned g c = λ told.
    let view = view_of c.args.core.now in
    let laws = g.met.D.Disk g.world.𝓛 g.world.𝓜 g.world.𝓡 ((λ s x. x), (λ x. x), (λ x. x), λ x. x) in
    kept_there g.D.Disk.tells view c.requires.rest.0 c.args.waiting c.requires.rest.1 told view.state (like_of view.state view.state refl) c.active_segment-segment.result c.active_segment-segment.ensures c.end.result c.end.ensures (λ a. 1)
    (g.D.Disk.seen c.append_last.new.disk) (λ a waits ends. c.append_last.ensures.any_moment told a waits) (laws.itself told c.append_last.new.disk)

-- The disk failed

stopped_as : (g : _) (c : goal.Joined-waiting-3 g) → view_of c.stop.new.core ≡ moved (view_of c.args.core.now) (g.D.Disk.seen c.append_last.new.disk) (g.D.Disk.faults c.append_last.new.disk) (halted c.args.core.now.state)
stopped_as g c = ap (view_of {D = g.row.D.Denot} {Page = g.row.D-Page.Denot} {Port = g.row.D-Port.Denot} {kind = g.D.Disk}) c.stop.ensures.state

pub returns-in-Err-clause-sound : goal.returns-in-Err-clause-sound
returns-in-Err-clause-sound g c =
    let view = view_of c.args.core.now in
    let is = c.requires.rest.1 in
    let new = moved view (g.D.Disk.seen c.append_last.new.disk) (g.D.Disk.faults c.append_last.new.disk) (halted view.state) in
    subst (IsSound g.D.Disk.tells) (sym (stopped_as g c)) (sound_halted g.D.Disk.tells (at_rest view c.requires.rest.0) new is.fits is.sound)

moments : (g : _) (c : goal.Joined-waiting-3 g) → g.D.Disk.tells → (d : Directory) → IsAtRest g.D.Disk.tells (view_of c.args.core.now) d c.args.waiting → (config : Fields) (h : History) (caller : ℕ) (call : Call)
    → (stands : StandsNow config h (at_rest (view_of c.args.core.now) d)) → IsFor (with_done h caller call) (appended stands.stored c.args.waiting.record)
    → GoesFrom c.args.core.now.state.next (IsKeptOr config h (Some (done_by caller call))) (g.D.Disk.seen c.args.core.now.disk) (g.D.Disk.seen c.append_last.new.disk)
moments g c told d is config h caller call stands with =
    let view = view_of c.args.core.now in
    moments_there g.D.Disk.tells view d c.args.waiting is told view.state (like_of view.state view.state refl) c.active_segment-segment.result c.active_segment-segment.ensures c.end.result c.end.ensures (λ a. 1) (g.D.Disk.seen c.append_last.new.disk)
    (λ a waits ends. c.append_last.ensures.any_moment told a waits) config h caller call stands with

pub returns-in-Err-clause-any_moment : goal.returns-in-Err-clause-any_moment
returns-in-Err-clause-any_moment g c = λ told d is config h caller call stands with.
    subst (λ (new : View). GoesFrom c.args.core.now.state.next (IsKeptOr config h (Some (done_by caller call))) (g.D.Disk.seen c.args.core.now.disk) new.disk) (sym (stopped_as g c))
    (moments g c told d is config h caller call stands with)

pub returns-in-Err-clause-stands : goal.returns-in-Err-clause-stands
returns-in-Err-clause-stands g c = λ told d is config h caller call change stands with.
    let disk = g.D.Disk.seen c.append_last.new.disk in
    let faults = g.D.Disk.faults c.append_last.new.disk in
    let laws = g.met.D.Disk g.world.𝓛 g.world.𝓜 g.world.𝓡 ((λ s x. x), (λ x. x), (λ x. x), λ x. x) in
    subst (λ why. StandsNow config (refused_to h caller call why) (view_of c.stop.new.core)) (sym c.stop.ensures.is)
    (subst (λ (new : View). StandsNow config (with_failed h caller call c.args.before faults) new) (sym (stopped_as g c))
    (failed_there g.D.Disk.tells (view_of c.args.core.now) d c.args.waiting is told config h caller call change stands disk faults c.args.before faults (laws.itself told c.append_last.new.disk)
    (moments g c told d is config h caller call stands with)))

pub returns-in-Err-clause-pinned : goal.returns-in-Err-clause-pinned
returns-in-Err-clause-pinned g c = λ told.
    let view = view_of c.args.core.now in
    let laws = g.met.D.Disk g.world.𝓛 g.world.𝓜 g.world.𝓡 ((λ s x. x), (λ x. x), (λ x. x), λ x. x) in
    subst (λ (new : View). AreKept view.pins.pins view.disk.directory new.disk.directory) (sym (stopped_as g c))
    (kept_there g.D.Disk.tells view c.requires.rest.0 c.args.waiting c.requires.rest.1 told view.state (like_of view.state view.state refl) c.active_segment-segment.result c.active_segment-segment.ensures c.end.result c.end.ensures (λ a. 1)
    (g.D.Disk.seen c.append_last.new.disk) (λ a waits ends. c.append_last.ensures.any_moment told a waits) (laws.itself told c.append_last.new.disk))

pub returns-in-Err-clause-numbers : goal.returns-in-Err-clause-numbers
returns-in-Err-clause-numbers g c = λ told.
    let view = view_of c.args.core.now in
    let later = later_there g.D.Disk.tells view c.requires.rest.0 c.args.waiting c.requires.rest.1 told view.state (like_of view.state view.state refl) c.active_segment-segment.result c.active_segment-segment.ensures c.end.result c.end.ensures (λ a. 1)
    (g.D.Disk.seen c.append_last.new.disk) (λ a waits ends. c.append_last.ensures.any_moment told a waits) in
    subst (λ (new : View). new.state.next + view.disk.moment ≤ view.state.next + new.disk.moment) (sym (stopped_as g c)) (omega (arith, later))

pub returns-in-Err-clause-drawn : goal.returns-in-Err-clause-drawn
returns-in-Err-clause-drawn g c = subst (λ (new : View). c.args.core.now.state.next ≤ new.state.next) (sym (stopped_as g c)) (omega arith)
