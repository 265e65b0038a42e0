use Rattle.std.proofs.Common.{rules, ◌≡◌, ◌⊎◌, ◌+◌, [], inl, inr, Some, None, Result, Err, refl, sym, ◌∙◌, subst, arith}
use Rattle.std.specs.Prelude.{IfErr, List}
use Rattle.std.specs.Result.{result_err}
use Rattle.std.proofs.lemmas.Result.{IfErr-weaker}
use Rattle.lethe_base.specs.declared.refused.Refused.{Refused}
use Rattle.lethe_disk.proofs.Quieting.{on_ok}
use Rattle.lethe_stored.specs.Stored.{Stored}
use Rattle.lethe_state.specs.Room.{HasRoom, IsShortToFreeze}
use Rattle.lethe_core.specs.Keeps.{Keeps}
use Rattle.lethe_core.specs.Merges.{AreRetiredBehind, IsMergedInPart, IsRoomBegun, IsRoomMadeBy, IsShortToMerge, IsUncrowded, Outcome, pages_of}
use Rattle.lethe_core.specs.Reasons.{HasReason, IsShort, IsShortOfRoom, IsUnreadable}
use Rattle.lethe_core.specs.Running.{Holds}
use Rattle.lethe_core.specs.Steps.{IsDoneInPart, IsReady, IsSteady}
use Rattle.lethe_core.specs.View.{Flying, view_of}
use Rattle.lethe_core.proofs.Behind.{next_may, reason_behind}
use Rattle.lethe_core.proofs.Damaged.{not_damaged}
use Rattle.lethe_core.proofs.Hindered.{keeps_itself, keeps_then}
use Rattle.lethe_core.proofs.Likes.{before_holds, jobs_same}
use Rattle.lethe_core.proofs.Outcomes.{retired_since}
use Rattle.lethe_core.proofs.Roomed.{clash, has_room, room_ready, sees_room}
use Rattle.lethe_core.proofs.holding.Core.make_room.Goals as goal

-- There was room

pub returns-then-has_room-clause-keeps : goal.returns-then-has_room-clause-keeps
returns-then-has_room-clause-keeps g c = keeps_itself g.D.Disk.tells (view_of c.args.self.now) c.requires.sound c.requires.runs None tt

pub returns-then-has_room-clause-done : goal.returns-then-has_room-clause-done
returns-then-has_room-clause-done g c = λ told s holds.
    let room = c.has_room.ensures.0 c.if-has_room.true in
    (s, [], inl (has_room (view_of c.args.self.now) s holds room, refl, refl), holds, omega arith, refl)

-- The calls

pub freeze_now-requires-clause-may : goal.freeze_now-requires-clause-may
freeze_now-requires-clause-may g c κs within =
    next_may g.D.Disk.tells (view_of c.args.self.now) (view_of c.unfreeze.new.self) c.args.before c.requires c.in_ok-unfreeze.ensures.keeps

pub merge_due-requires-clause-may : goal.merge_due-requires-clause-may
merge_due-requires-clause-may g c κs within =
    let middle = view_of c.unfreeze.new.self in
    let may = next_may g.D.Disk.tells (view_of c.args.self.now) middle c.args.before c.requires c.in_ok-unfreeze.ensures.keeps in
    next_may g.D.Disk.tells middle (view_of c.freeze_now.new.self) c.args.before may c.in_ok-freeze_now.ensures.keeps

-- The frozen buffer could not be flushed

pub returns-in_err-unfreeze-clause-keeps : goal.returns-in_err-unfreeze-clause-keeps
returns-in_err-unfreeze-clause-keeps g c =
    let why = c.in_err-unfreeze.field-0.0 in
    let refusal : c.from_residual.result ≡ Err why = search rules in
    subst (λ (r : Result (Unit {0}) Refused). Keeps g.D.Disk.tells (view_of c.args.self.now) (view_of c.unfreeze.new.self) (result_err r)) (sym refusal) c.in_err-unfreeze.ensures.keeps

pub returns-in_err-unfreeze-clause-partly : goal.returns-in_err-unfreeze-clause-partly
returns-in_err-unfreeze-clause-partly g c =
    let old = c.args.self.now in
    let new = c.unfreeze.new.self in
    let why = c.in_err-unfreeze.field-0.0 in
    let refusal : c.from_residual.result ≡ Err why = search rules in
    subst (λ (r : Result (Unit {0}) Refused). IfErr r (IsDoneInPart g.D.Disk.tells (IsRoomBegun (view_of old).flights) (view_of old) (view_of new))) (sym refusal)
    (λ none told s holds.
    (s, inl refl, before_holds g.D.Disk.tells told (view_of old) (view_of new) s (jobs_same old new c.unfreeze.ensures.begun c.unfreeze.ensures.flights c.unfreeze.ensures.keeps.pins) c.unfreeze.ensures.keeps.pins (c.in_err-unfreeze.ensures.undone none) holds))

pub returns-in_err-unfreeze-clause-why : goal.returns-in_err-unfreeze-clause-why
returns-in_err-unfreeze-clause-why g c =
    let old = c.args.self.now.state in
    let new = view_of c.unfreeze.new.self in
    let why = c.in_err-unfreeze.field-0.0 in
    let refusal : c.from_residual.result ≡ Err why = search rules in
    let Short = IsShortOfRoom g.D.Disk.tells old new in
    let faults = g.D.Disk.port_faults c.args.port.now in
    subst (λ (r : Result (Unit {0}) Refused). IfErr r (λ why. HasReason Short old c.args.before new.faults why ⊎ IsUnreadable g.D.Disk.tells g.D.Disk.ports_fail faults faults why)) (sym refusal)
    (inl (reason_behind (IsShort old) Short old old c.args.before new.faults refl refl (λ short. inl short) why c.in_err-unfreeze.ensures.why))

-- The active buffer could not be frozen

pub returns-in_err-freeze_now-clause-keeps : goal.returns-in_err-freeze_now-clause-keeps
returns-in_err-freeze_now-clause-keeps g c =
    let old = view_of c.args.self.now in
    let middle = view_of c.unfreeze.new.self in
    let new = view_of c.freeze_now.new.self in
    let why = c.in_err-freeze_now.field-0.0 in
    let refusal : c.from_residual-in_err-freeze_now.result ≡ Err why = search rules in
    subst (λ (r : Result (Unit {0}) Refused). Keeps g.D.Disk.tells old new (result_err r)) (sym refusal)
    (keeps_then g.D.Disk.tells old middle new c.in_ok-unfreeze.ensures.keeps (Some why) c.in_err-freeze_now.ensures.keeps)

pub returns-in_err-freeze_now-clause-partly : goal.returns-in_err-freeze_now-clause-partly
returns-in_err-freeze_now-clause-partly g c =
    let old = view_of c.args.self.now in
    let mid = c.unfreeze.new.self in
    let new = c.freeze_now.new.self in
    let why = c.in_err-freeze_now.field-0.0 in
    let refusal : c.from_residual-in_err-freeze_now.result ≡ Err why = search rules in
    subst (λ (r : Result (Unit {0}) Refused). IfErr r (IsDoneInPart g.D.Disk.tells (IsRoomBegun old.flights) old (view_of new))) (sym refusal) (λ none told s holds.
    let full : HasRoom s → ⊥ = λ room. clash c.has_room.result (c.has_room.ensures.1 (sees_room old s holds room)) c.if-has_room.false in
    let middle = c.in_ok-unfreeze.ensures.done told s holds in (
      middle.0,
      inr (full, record { middle = middle.0; unfrozen = middle.1; rest = inl refl }),
      before_holds g.D.Disk.tells told (view_of mid) (view_of new) middle.0 (jobs_same mid new c.freeze_now.ensures.begun c.freeze_now.ensures.flights c.freeze_now.ensures.keeps.pins) c.freeze_now.ensures.keeps.pins (c.in_err-freeze_now.ensures.undone none) middle.2,
    ))

pub returns-in_err-freeze_now-clause-why : goal.returns-in_err-freeze_now-clause-why
returns-in_err-freeze_now-clause-why g c =
    let old = c.args.self.now.state in
    let middle = c.unfreeze.new.self.state in
    let new = view_of c.freeze_now.new.self in
    let why = c.in_err-freeze_now.field-0.0 in
    let refusal : c.from_residual-in_err-freeze_now.result ≡ Err why = search rules in
    let Short = IsShortOfRoom g.D.Disk.tells old new in
    let faults = g.D.Disk.port_faults c.args.port.now in
    let ready = c.in_ok-unfreeze.ensures.ready in
    subst (λ (r : Result (Unit {0}) Refused). IfErr r (λ why. HasReason Short old c.args.before new.faults why ⊎ IsUnreadable g.D.Disk.tells g.D.Disk.ports_fail faults faults why)) (sym refusal)
    (inl (reason_behind (IsShortToFreeze middle) Short old middle c.args.before new.faults ready.steady.stopped ready.steady.count (λ short. inl (ready.short short)) why c.in_err-freeze_now.ensures.why))

-- Both were

pub returns-clause-keeps : goal.returns-clause-keeps
returns-clause-keeps g c =
    let old = view_of c.args.self.now in
    let middle = view_of c.unfreeze.new.self in
    let cleared = view_of c.freeze_now.new.self in
    let new = view_of c.merge_due.new.self in
    keeps_then g.D.Disk.tells old cleared new (keeps_then g.D.Disk.tells old middle cleared c.in_ok-unfreeze.ensures.keeps None c.in_ok-freeze_now.ensures.keeps) (result_err c.merge_due.result) c.merge_due.ensures.keeps

pub returns-clause-partly : goal.returns-clause-partly
returns-clause-partly g c =
    let old = view_of c.args.self.now in
    let cleared = view_of c.freeze_now.new.self in
    let new = view_of c.merge_due.new.self in
    let flights = c.freeze_now.ensures.flights ∙ c.unfreeze.ensures.flights in
    IfErr-weaker c.merge_due.result (IsDoneInPart g.D.Disk.tells (IsMergedInPart cleared.flights) cleared new) (IsDoneInPart g.D.Disk.tells (IsRoomBegun old.flights) old new)
    (λ why done none told s holds.
    let full : HasRoom s → ⊥ = λ room. clash c.has_room.result (c.has_room.ensures.1 (sees_room old s holds room)) c.if-has_room.false in
    let middle = c.in_ok-unfreeze.ensures.done told s holds in
    let froze = c.in_ok-freeze_now.ensures.done told middle.0 middle.2 in
    let some = done none told froze.0 froze.2 in
    let merged = subst (λ flights. IsMergedInPart flights froze.0 some.0) flights some.1 in
    (some.0, inr (full, record { middle = middle.0; unfrozen = middle.1; rest = inr (froze.0, froze.1, froze.2.remembers.coherent, merged) }), some.2)) c.merge_due.ensures.partly

pub returns-clause-done : goal.returns-clause-done
returns-clause-done g c = λ told s holds.
    let old = view_of c.args.self.now in
    let new = view_of c.merge_due.new.self in
    let full : HasRoom s → ⊥ = λ room. clash c.has_room.result (c.has_room.ensures.1 (sees_room old s holds room)) c.if-has_room.false in
    let middle = c.in_ok-unfreeze.ensures.done told s holds in
    let cleared = c.in_ok-freeze_now.ensures.done told middle.0 middle.2 in
    let start = g.D.Disk.fetches c.args.port.now in
    let now = g.D.Disk.fetches c.merge_due.new.port in
    let flights = c.freeze_now.ensures.flights ∙ c.unfreeze.ensures.flights in
    let retired : (view_of c.freeze_now.new.self).retired ≡ old.retired = (λ i. (c.freeze_now.ensures.retired i).items) ∙ λ i. (c.unfreeze.ensures.retired i).items in
    let P : List Flying → Type 0 = λ flights. (t : Stored) × (outcomes : List Outcome) × IsUncrowded flights cleared.0 outcomes t × Holds new t × (now ≡ start + pages_of outcomes)
    × AreRetiredBehind outcomes (view_of c.freeze_now.new.self).pins.pins (view_of c.freeze_now.new.self).retired new.retired in
    on_ok c.merge_due.result (P (view_of c.freeze_now.new.self).flights)
    ((t : Stored) × (outcomes : List Outcome) × IsRoomMadeBy old.flights s outcomes t × Holds new t × (now ≡ start + pages_of outcomes) × AreRetiredBehind outcomes old.pins.pins old.retired new.retired)
    (c.merge_due.ensures.done told cleared.0 cleared.2)
    (λ done.
    let merges = subst (λ flights. IsUncrowded flights cleared.0 done.1 done.0) flights done.2 in
    (done.0, done.1, inr (full, record { middle = middle.0; unfrozen = middle.1; cleared = cleared.0; frozen = cleared.1; coherent = cleared.2.remembers.coherent; merges = merges }), done.3, done.4, retired_since done.1 (view_of c.freeze_now.new.self).pins old.pins (view_of c.freeze_now.new.self).retired old.retired new.retired (c.in_ok-freeze_now.ensures.keeps.pins ∙ c.in_ok-unfreeze.ensures.keeps.pins) retired done.5))

pub returns-clause-why : goal.returns-clause-why
returns-clause-why g c =
    let old = c.args.self.now.state in
    let cleared = c.freeze_now.new.self.state in
    let new = view_of c.merge_due.new.self in
    let Short = IsShortOfRoom g.D.Disk.tells old new in
    let Merging = IsShortToMerge g.D.Disk.tells new in
    let Unread = IsUnreadable g.D.Disk.tells g.D.Disk.ports_fail (g.D.Disk.port_faults c.args.port.now) (g.D.Disk.port_faults c.merge_due.new.port) in
    let steady = c.in_ok-unfreeze.ensures.ready.steady in
    let empty = c.in_ok-freeze_now.ensures.ready in
    IfErr-weaker c.merge_due.result (λ why. HasReason Merging cleared c.args.before new.faults why ⊎ Unread why) (λ why. HasReason Short old c.args.before new.faults why ⊎ Unread why)
    (λ why either. elim either as (λ _. HasReason Short old c.args.before new.faults why ⊎ Unread why) [
      | inl is ↦ inl (reason_behind Merging Short old cleared c.args.before new.faults (empty.stopped ∙ steady.stopped) (empty.count ∙ steady.count) (λ short. inr short) why is)
      | inr is ↦ inr is
    ]) c.merge_due.ensures.why

pub returns-clause-ready : goal.returns-clause-ready
returns-clause-ready g c =
    let some = c.requires.sound.writable.manifest.config.buffer.0 in
    on_ok c.merge_due.result (IsSteady c.freeze_now.new.self.state c.merge_due.new.self.state) (IsReady c.args.self.now.state c.merge_due.new.self.state) c.merge_due.ensures.steady
    (λ steady. room_ready c.args.self.now.state c.unfreeze.new.self.state c.freeze_now.new.self.state c.merge_due.new.self.state c.in_ok-unfreeze.ensures.ready c.in_ok-freeze_now.ensures.ready steady (omega (arith, some)))

-- With room none of the steps is made

pub returns-in_err-unfreeze-clause-room : goal.returns-in_err-unfreeze-clause-room
returns-in_err-unfreeze-clause-room g c = λ room. absurd (clash c.has_room.result (c.has_room.ensures.1 room) c.if-has_room.false)

pub returns-in_err-freeze_now-clause-room : goal.returns-in_err-freeze_now-clause-room
returns-in_err-freeze_now-clause-room g c = λ room. absurd (clash c.has_room.result (c.has_room.ensures.1 room) c.if-has_room.false)

pub returns-clause-room : goal.returns-clause-room
returns-clause-room g c = λ room. absurd (clash c.has_room.result (c.has_room.ensures.1 room) c.if-has_room.false)

-- Neither of the first two steps tells of a page

pub returns-in_err-unfreeze-clause-damaged : goal.returns-in_err-unfreeze-clause-damaged
returns-in_err-unfreeze-clause-damaged g c = λ name e.
    let old = c.args.self.now.state in
    let now = g.D.Disk.faults c.unfreeze.new.self.disk in
    let why = c.in_err-unfreeze.field-0.0 in
    let refusal : c.from_residual.result ≡ Err why = search rules in
    absurd (not_damaged (IsShort old) old c.args.before now c.from_residual.result
    (subst (λ (r : Result (Unit {0}) Refused). IfErr r (HasReason (IsShort old) old c.args.before now)) (sym refusal) c.in_err-unfreeze.ensures.why) name e)

pub returns-in_err-freeze_now-clause-damaged : goal.returns-in_err-freeze_now-clause-damaged
returns-in_err-freeze_now-clause-damaged g c = λ name e.
    let old = c.unfreeze.new.self.state in
    let now = g.D.Disk.faults c.freeze_now.new.self.disk in
    let why = c.in_err-freeze_now.field-0.0 in
    let refusal : c.from_residual-in_err-freeze_now.result ≡ Err why = search rules in
    absurd (not_damaged (IsShortToFreeze old) old c.args.before now c.from_residual-in_err-freeze_now.result
    (subst (λ (r : Result (Unit {0}) Refused). IfErr r (HasReason (IsShortToFreeze old) old c.args.before now)) (sym refusal) c.in_err-freeze_now.ensures.why) name e)
