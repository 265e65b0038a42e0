use Rattle.std.proofs.Common.{rules, ◌≡◌, ◌+◌, inl, inr, [], ◌∷◌, ◌++◌, Ok, Err, Some, None, true, false, refl, sym, ap, ◌∙◌, subst, arith}
use Rattle.lethe_advance.specs.Shown.{parts_by_level}
use Rattle.lethe_base.specs.declared.refused.Refused.TheVariants.{NoMemory}
use Rattle.lethe_core.specs.Reasons.{HasReason}
use Rattle.lethe_core.specs.View.{View, view_of}
use Rattle.lethe_state.specs.Records.{headers_in}
use Rattle.lethe_row.specs.Rests.{IsAtRest}
use Rattle.lethe_row.specs.Rows.{IsRecordOf, call_of}
use Rattle.lethe_row.proofs.Along.{IsHeld, at_end, at_end_behind, failed_row, first_held, idle_row, last_row, next_held, one_longer, still_held, unheld_row}
use Rattle.lethe_row.proofs.row.record_row.Goals as goal

-- There was no room, or no change

pub returns-in_default-clause-row : goal.returns-in_default-clause-row
returns-in_default-clause-row g c =
    let view = view_of c.args.core.now in
    let none = c.next_with_room.ensures.none c.in_default.is in
    idle_row g.D.Disk.tells view c.args.asked.now.items c.next_with_room.new.asked.items c.requires.sound none.0 (at_end view c.args.asked.now.items none.1)

-- The first record

pub returns-in-Err-clause-row : goal.returns-in-Err-clause-row
returns-in-Err-clause-row g c =
    let old = view_of c.args.core.now in
    let new : View = view_of c.hold.new.core in
    let why = c.in-Err.why in
    let some = c.in-Some.ensures.some in
    let fits = some.2 in
    unheld_row g.D.Disk.tells old c.requires.runs c.args.asked.now.items c.in-Some.first c.next_with_room.new.asked.items some.0 new c.in-Err.ensures.sound c.hold.ensures.any_moment c.hold.ensures.numbers c.hold.ensures.drawn c.hold.ensures.faults c.hold.ensures.pinned
    (omega (arith, fits)) why (subst (λ n. HasReason ⊥ old.state n new.faults why) c.faults-before.ensures c.in-Err.ensures.why) c.in-Err.ensures.count c.in-Err.ensures.stopped c.in-Err.ensures.stands
    (λ is. c.hold.ensures.untouched (c.in-Err.is ∙ ap Err is))

pub loop-change-init : goal.loop-change-init
loop-change-init g c =
    let old = view_of c.args.core.now in
    let new : View = view_of c.hold.new.core in
    let waits = c.in-Ok.ensures.waits in
    let is = subst (IsRecordOf old.state (headers_in old.levels) c.in-Some.first) (sym waits.0) c.record-next.ensures.is in
    record {
      held = (
        [],
        refl,
        first_held g.D.Disk.tells old c.requires.runs c.args.asked.now.items c.in-Some.first c.next_with_room.new.asked.items c.in-Some.ensures.some.0 c.in-Ok.waiting new waits.1 c.requires.sound c.record-next.ensures.within is
            c.in-Ok.ensures.like (ap parts_by_level c.hold.ensures.version) c.in-Ok.ensures.rests c.hold.ensures.any_moment c.in-Ok.ensures.calls c.hold.ensures.numbers c.hold.ensures.faults c.hold.ensures.pinned c.hold.ensures.pins,
      );
      runs = c.requires.runs;
      manifest = c.hold.ensures.manifest;
      version = c.hold.ensures.version;
      retired = c.hold.ensures.retired;
      flights = c.hold.ensures.flights;
      begun = c.hold.ensures.begun;
      pins = c.hold.ensures.pins;
    }

-- The record that waits is passed on

pub pass_on-requires-clause-rest : goal.pass_on-requires-clause-rest
pass_on-requires-clause-rest g c κs within = let held = c.loop-change.invariant.held.2 in (held.at, held.rest)

pub loop-change-preserved : goal.loop-change-preserved
loop-change-preserved g c =
    let old = view_of c.args.core.now in
    let mid : View = view_of c.loop-change.core in
    let new : View = view_of c.pass_on.new.core in
    let made = c.loop-change.invariant.held.0 in
    let many = c.loop-change.invariant.held.1 in
    let held = c.loop-change.invariant.held.2 in
    let ok : c.pass_on.result ≡ Ok true = search rules in
    let passed = c.pass_on.ensures.passed held.at held.rest ok in
    let counts = passed.1.2 in
    let levels = ap parts_by_level c.pass_on.ensures.version in
    let change = c.in-Some-next_with_room.change in
    let of = c.record_behind-next.ensures.is new.state c.loop-change.waiting.end counts.state in
    let is = subst (λ levels. IsRecordOf new.state (headers_in levels) change c.pass_on.new.waiting.record) (sym levels) (subst (IsRecordOf new.state (headers_in mid.levels) change) (sym passed.0) of) in
    record {
      held = (
        made ++ held.next ∷ [],
        one_longer made held.next ∙ ap (λ n. n + 1) many,
        next_held g.D.Disk.tells old c.requires.runs c.args.asked.now.items (Unit {0}) made c.loop-change.waiting c.loop-change.asked.items mid held change c.next_with_room-in-loop-change.new.asked.items
            c.in-Some-next_with_room.ensures.some.0 c.pass_on.new.waiting new passed.1.0 passed.1.1 counts c.record_behind-next.ensures.within is levels
            (λ told config h caller stands will. c.pass_on.ensures.any_moment told held.at held.rest config h caller (call_of held.next) stands will)
            (λ told. c.pass_on.ensures.calls told ok) c.pass_on.ensures.numbers c.pass_on.ensures.faults c.pass_on.ensures.pinned c.pass_on.ensures.pins,
      );
      runs = c.requires.runs;
      manifest = c.pass_on.ensures.manifest ∙ c.loop-change.invariant.manifest;
      version = c.pass_on.ensures.version ∙ c.loop-change.invariant.version;
      retired = c.pass_on.ensures.retired ∙ c.loop-change.invariant.retired;
      flights = c.pass_on.ensures.flights ∙ c.loop-change.invariant.flights;
      begun = c.pass_on.ensures.begun ∙ c.loop-change.invariant.begun;
      pins = c.pass_on.ensures.pins ∙ c.loop-change.invariant.pins;
    }

pub returns-in-Err-pass_on-clause-row : goal.returns-in-Err-pass_on-clause-row
returns-in-Err-pass_on-clause-row g c =
    let held = c.loop-change.invariant.held.2 in
    failed_row g.D.Disk.tells (view_of c.args.core.now) c.requires.runs c.args.asked.now.items (Unit {0}) c.loop-change.invariant.held.0 c.loop-change.waiting c.loop-change.asked.items (view_of c.loop-change.core) held
    c.faults-before.result c.faults-before.ensures (view_of c.pass_on.new.core) c.in-Err-pass_on.why c.next_with_room-in-loop-change.new.asked.items (inr (c.in-Some-next_with_room.change, c.in-Some-next_with_room.ensures.some.0)) c.loop-change.done c.loop-change.invariant.held.1 c.in-Err-pass_on.ensures.sound
    c.in-Err-pass_on.ensures.count c.in-Err-pass_on.ensures.stopped (λ told config h caller call change stands will. c.in-Err-pass_on.ensures.stands told held.at held.rest config h caller call change stands will)
    (λ told config h caller stands will. c.pass_on.ensures.any_moment told held.at held.rest config h caller (call_of held.next) stands will) c.pass_on.ensures.numbers c.pass_on.ensures.drawn c.pass_on.ensures.faults c.pass_on.ensures.pinned
    c.in-Err-pass_on.ensures.why (λ is. c.pass_on.ensures.memory (c.in-Err-pass_on.is ∙ ap Err is))

-- There was no memory for the next one

pub count_last-last-requires-clause-rest : goal.count_last-last-requires-clause-rest
count_last-last-requires-clause-rest g c κs within =
    let held = c.loop-change.invariant.held.2 in
    let ok : c.pass_on.result ≡ Ok false = search rules in
    let stays = c.pass_on.ensures.stays held.at held.rest ok in
    (held.at, subst (IsAtRest g.D.Disk.tells (view_of c.pass_on.new.core) held.at) (sym stays.0) stays.2)

pub returns-in-Ok-false-clause-row : goal.returns-in-Ok-false-clause-row
returns-in-Ok-false-clause-row g c =
    let tells = g.D.Disk.tells in
    let old = view_of c.args.core.now in
    let mid : View = view_of c.pass_on.new.core in
    let new : View = view_of c.count_last-last.new.core in
    let was = c.loop-change.invariant.held.2 in
    let ok : c.pass_on.result ≡ Ok false = search rules in
    let stays = c.pass_on.ensures.stays was.at was.rest ok in
    let same : c.pass_on.new.waiting ≡ c.loop-change.waiting = stays.0 in
    let held =
    still_held tells old c.requires.runs c.args.asked.now.items (Unit {0}) c.loop-change.invariant.held.0 c.loop-change.waiting c.loop-change.asked.items (view_of c.loop-change.core) was mid stays.2 stays.1
    (ap parts_by_level c.pass_on.ensures.version) stays.3 (λ told config h caller stands will. c.pass_on.ensures.any_moment told was.at was.rest config h caller (call_of was.next) stands will)
    c.pass_on.ensures.numbers c.pass_on.ensures.faults c.pass_on.ensures.pinned c.pass_on.ensures.pins in
    let there = subst (λ waiting. IsHeld tells ⊥ old c.args.asked.now.items c.loop-change.invariant.held.0 waiting c.loop-change.asked.items mid) (sym same) held in
    last_row tells old c.requires.runs c.args.asked.now.items ⊥ c.loop-change.invariant.held.0 c.pass_on.new.waiting c.loop-change.asked.items mid there c.faults-before.result c.faults-before.ensures new
    c.next_with_room-in-loop-change.new.asked.items (inr (c.in-Some-next_with_room.change, c.in-Some-next_with_room.ensures.some.0)) c.loop-change.done c.loop-change.invariant.held.1 c.count_last-last.ensures.sound c.count_last-last.ensures.numbers c.count_last-last.ensures.drawn c.count_last-last.ensures.faults c.count_last-last.ensures.pinned
    (λ told config h caller stands will. c.count_last-last.ensures.any_moment told there.at there.rest config h caller (call_of there.next) stands will) (Some NoMemory) (λ is. absurd (let clash : Some NoMemory ≡ None = is in cc)) c.requires.runs
    (λ counts. (refl, c.in-Some-next_with_room.change, c.in-Some-next_with_room.ensures.some.0)) c.count_last-last.result (c.count_last-last.ensures.counted there.at there.rest) c.count_last-last.ensures.count
    c.count_last-last.ensures.stopped c.count_last-last.ensures.why c.count_last-last.ensures.memory (λ told config h caller call change stands will. c.count_last-last.ensures.stands told there.at there.rest config h caller call change stands will)
    c.count_last-last.ensures.calls c.ended.result c.ended.ensures

-- The last record is made to count

pub count_last-last-requires-2-clause-rest : goal.count_last-last-requires-2-clause-rest
count_last-last-requires-2-clause-rest g c κs within = let held = c.loop-change.invariant.held.2 in (held.at, held.rest)

pub returns-clause-row : goal.returns-clause-row
returns-clause-row g c =
    let tells = g.D.Disk.tells in
    let old = view_of c.args.core.now in
    let mid : View = view_of c.loop-change.core in
    let new : View = view_of c.count_last-last-2.new.core in
    let held = c.loop-change.invariant.held.2 in
    let none = c.next_with_room-in-loop-change.ensures.none c.in_default-next_with_room.is in
    last_row tells old c.requires.runs c.args.asked.now.items (Unit {0}) c.loop-change.invariant.held.0 c.loop-change.waiting c.loop-change.asked.items mid held c.faults-before.result c.faults-before.ensures new
    c.next_with_room-in-loop-change.new.asked.items (inl none.0) c.loop-change.done c.loop-change.invariant.held.1 c.count_last-last-2.ensures.sound c.count_last-last-2.ensures.numbers c.count_last-last-2.ensures.drawn c.count_last-last-2.ensures.faults c.count_last-last-2.ensures.pinned
    (λ told config h caller stands will. c.count_last-last-2.ensures.any_moment told held.at held.rest config h caller (call_of held.next) stands will) None (λ is. tt) c.requires.runs
    (λ counts. (refl, none.0, at_end_behind mid new c.loop-change.waiting.record c.loop-change.waiting.end counts.state c.loop-change.asked.items none.1)) c.count_last-last-2.result (c.count_last-last-2.ensures.counted held.at held.rest)
    c.count_last-last-2.ensures.count c.count_last-last-2.ensures.stopped c.count_last-last-2.ensures.why c.count_last-last-2.ensures.memory
    (λ told config h caller call change stands will. c.count_last-last-2.ensures.stands told held.at held.rest config h caller call change stands will) c.count_last-last-2.ensures.calls c.ended-2.result c.ended-2.ensures
