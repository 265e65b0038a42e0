use Rattle.std.proofs.Common.{◌≡◌, ◌∙◌, length, not, refl, sym, ap, subst}
use Rattle.std.specs.Prelude.{IfErr, ◌==◌}
use Rattle.std.specs.Result.{result_err}
use Rattle.lethe_base.specs.declared.call.Call.TheVariants.{Tick}
use Rattle.lethe_core.specs.Asked.{Makes}
use Rattle.lethe_core.specs.View.{Face, view_of}
use Rattle.lethe_engine.specs.Ticks.{passes, ticked_face}
use Rattle.lethe_store.specs.Entries.{entries_by, entries_of}
use Rattle.lethe_store.specs.Reasons.{counts_of}
use Rattle.lethe_store.specs.Sessions.{IsLedTo}
use Rattle.lethe_store.specs.Since.{Since, all_counted}
use Rattle.lethe_store.specs.StoreViews.{store_view}
use Rattle.lethe_store.specs.Ticks.{HasReasonOfTick, ticked_by}
use Rattle.lethe_store.proofs.Behind.{knows_made, leads_behind, room_behind, stopped_before}
use Rattle.lethe_store.proofs.Begun.{begun_so, rounds_tell}
use Rattle.lethe_store.proofs.Seats.{done_so, ready_after}
use Rattle.lethe_store.proofs.Ticked.{first_failure_of_tick, noted_tick, reason_of_tick, tick_due, tick_placed, tick_true}
use Rattle.lethe_store.proofs.ticking.Store+D+Changes.tick.Goals as goal

pub give-requires-clause-number : goal.give-requires-clause-number
give-requires-clause-number g c κs within =
    let caller = c.take-held.new.session.caller in
    ap length (c.told_entries-said.ensures ∙ ap (λ l. entries_of caller l c.did_of-did.result) c.told_tick-call.ensures) ∙ c.number_of.ensures caller (Tick c.args.to)

pub give-requires-clause-room : goal.give-requires-clause-room
give-requires-clause-room g c κs within =
    let old = c.take-held.result.value.engine in
    let new = c.tick-answer.new.self in
    let is = c.tick-answer.ensures in
    let why = is.why in
    let passed = passes (view_of old.core) c.args.to in
    let begun = begun_so (view_of old.core) c.args.to c.tick-answer.result c.take-held.ensures.sound.writable.count is.stopped is.backwards is.exhausted is.pinned g.D.Disk.tells g.D.Disk.ports_fail (view_of new.core)
    (g.D.Disk.port_faults c.take-held.new.session.port) (g.D.Disk.port_faults c.tick-answer.new.port) c.tick-answer.result refl why in
    let marks : c.told_ticked-noted.result.items ≡ ticked_by passed c.tick-answer.result = c.told_ticked-noted.ensures ∙ ap (λ b. ticked_by b c.tick-answer.result)
    ((λ i. not (c.rounds.ensures i == c.rounds-before.ensures i)) ∙ rounds_tell (view_of old.core) (view_of new.core) c.args.to (ap (λ (f : Face). f.rounds) is.answers.face_is)) in
    let told = c.told_entries-said.ensures ∙ ap (λ n. entries_of n c.told_tick-call.result.items c.did_of-did.result) c.take-held.ensures.of.1 in
    room_behind g.D.Disk.tells g.D.Disk.ports_fail (λ o. store_view o.engine) c.args.session.now.seat.me.0 c.take-held.new.session.seat.me.0 (store_view old) (store_view new) c.args.session.now.caller (Tick c.args.to)
    (result_err c.tick-answer.result) (ticked_face (view_of old.core) c.args.to) (ticked_by passed c.tick-answer.result) c.take-held.ensures.more c.take-held.ensures.since
    c.told_entries-said.result.items c.told_tick-call.result.items c.did_of-did.result c.told_ticked-noted.result.items told c.told_tick-call.ensures (c.did_of-did.ensures (Tick c.args.to)) marks
    is.answers (first_failure_of_tick g.D.Disk.tells g.D.Disk.ports_fail c.args.to (view_of old.core) (view_of new.core) (g.D.Disk.port_faults c.take-held.new.session.port) (g.D.Disk.port_faults c.tick-answer.new.port) c.tick-answer.result why)
    (noted_tick g.D.Disk.tells g.D.Disk.ports_fail (g.D.Disk.port_faults c.take-held.new.session.port) (g.D.Disk.port_faults c.tick-answer.new.port) c.args.session.now.caller c.args.to (store_view old) (store_view new) (g.D.Disk.seen new.core.disk).directory c.tick-answer.result c.take-held.ensures.sound why begun is.answers is.place is.due is.kept is.is_true is.certified) c.requires.ready.1

pub give-requires-clause-since : goal.give-requires-clause-since
give-requires-clause-since g c κs within =
    let old = c.take-held.result.value.engine in
    let new = c.tick-answer.new.self in
    let is = c.tick-answer.ensures in
    let why = is.why in
    let passed = passes (view_of old.core) c.args.to in
    let begun = begun_so (view_of old.core) c.args.to c.tick-answer.result c.take-held.ensures.sound.writable.count is.stopped is.backwards is.exhausted is.pinned g.D.Disk.tells g.D.Disk.ports_fail (view_of new.core)
    (g.D.Disk.port_faults c.take-held.new.session.port) (g.D.Disk.port_faults c.tick-answer.new.port) c.tick-answer.result refl why in
    let marks : c.told_ticked-noted.result.items ≡ ticked_by passed c.tick-answer.result = c.told_ticked-noted.ensures ∙ ap (λ b. ticked_by b c.tick-answer.result)
    ((λ i. not (c.rounds.ensures i == c.rounds-before.ensures i)) ∙ rounds_tell (view_of old.core) (view_of new.core) c.args.to (ap (λ (f : Face). f.rounds) is.answers.face_is)) in
    let told = c.told_entries-said.ensures ∙ ap (λ n. entries_of n c.told_tick-call.result.items c.did_of-did.result) c.take-held.ensures.of.1 in
    leads_behind g.D.Disk.tells g.D.Disk.ports_fail (λ o. store_view o.engine) c.args.session.now.seat.me.0 c.take-held.new.session.seat.me.0 (store_view old) (store_view new) c.args.session.now.caller (Tick c.args.to)
    (result_err c.tick-answer.result) (ticked_face (view_of old.core) c.args.to) (ticked_by passed c.tick-answer.result) c.take-held.ensures.more c.take-held.ensures.since
    c.told_entries-said.result.items c.told_tick-call.result.items c.did_of-did.result c.told_ticked-noted.result.items told c.told_tick-call.ensures (c.did_of-did.ensures (Tick c.args.to)) marks
    is.answers (first_failure_of_tick g.D.Disk.tells g.D.Disk.ports_fail c.args.to (view_of old.core) (view_of new.core) (g.D.Disk.port_faults c.take-held.new.session.port) (g.D.Disk.port_faults c.tick-answer.new.port) c.tick-answer.result why)
    (noted_tick g.D.Disk.tells g.D.Disk.ports_fail (g.D.Disk.port_faults c.take-held.new.session.port) (g.D.Disk.port_faults c.tick-answer.new.port) c.args.session.now.caller c.args.to (store_view old) (store_view new) (g.D.Disk.seen new.core.disk).directory c.tick-answer.result c.take-held.ensures.sound why begun is.answers is.place is.due is.kept is.is_true is.certified)

pub returns-clause-ready : goal.returns-clause-ready
returns-clause-ready g c =
    ready_after all_counted (λ o. store_view o.engine) c.args.session.now.seat.me c.take-held.new.session.seat.me.0 c.give.new.session.seat.me c.told_entries-said.result.items c.told_ticked-noted.result.items
    c.requires.ready c.take-held.ensures.more c.give.ensures.given

pub returns-clause-done : goal.returns-clause-done
returns-clause-done g c =
    let old = c.take-held.result.value.engine in
    let new = c.tick-answer.new.self in
    let is = c.tick-answer.ensures in
    let why = is.why in
    let passed = passes (view_of old.core) c.args.to in
    let begun = begun_so (view_of old.core) c.args.to c.tick-answer.result c.take-held.ensures.sound.writable.count is.stopped is.backwards is.exhausted is.pinned g.D.Disk.tells g.D.Disk.ports_fail (view_of new.core)
    (g.D.Disk.port_faults c.take-held.new.session.port) (g.D.Disk.port_faults c.tick-answer.new.port) c.tick-answer.result refl why in
    let marks : c.told_ticked-noted.result.items ≡ ticked_by passed c.tick-answer.result = c.told_ticked-noted.ensures ∙ ap (λ b. ticked_by b c.tick-answer.result)
    ((λ i. not (c.rounds.ensures i == c.rounds-before.ensures i)) ∙ rounds_tell (view_of old.core) (view_of new.core) c.args.to (ap (λ (f : Face). f.rounds) is.answers.face_is)) in
    let told = c.told_entries-said.ensures ∙ ap (λ n. entries_of n c.told_tick-call.result.items c.did_of-did.result) c.take-held.ensures.of.1 in (
      passed,
      begun,
      done_so c.args.session.now.seat.me.0 c.take-held.new.session.seat.me.0 c.give.new.session.seat.me.0 (entries_by c.args.session.now.caller (Makes (Tick c.args.to)) (result_err c.tick-answer.result))
          (ticked_by passed c.tick-answer.result) c.take-held.ensures.more
          (knows_made g.D.Disk.tells g.D.Disk.ports_fail (λ o. store_view o.engine) c.args.session.now.seat.me.0 c.take-held.new.session.seat.me.0 (store_view old) (store_view new) c.args.session.now.caller (Tick c.args.to)
          (result_err c.tick-answer.result) (ticked_face (view_of old.core) c.args.to) (ticked_by passed c.tick-answer.result) c.take-held.ensures.more c.take-held.ensures.since c.give.new.session.seat.me.0
          c.told_entries-said.result.items c.told_tick-call.result.items c.did_of-did.result c.told_ticked-noted.result.items told c.told_tick-call.ensures (c.did_of-did.ensures (Tick c.args.to)) marks (ap (λ m. m.0) c.give.ensures.given)),
    )

pub returns-clause-place : goal.returns-clause-place
returns-clause-place g c =
    let old = c.take-held.result.value.engine in
    let new = c.tick-answer.new.self in
    let is = c.tick-answer.ensures in
    let why = is.why in
    let passed = passes (view_of old.core) c.args.to in
    let begun = begun_so (view_of old.core) c.args.to c.tick-answer.result c.take-held.ensures.sound.writable.count is.stopped is.backwards is.exhausted is.pinned g.D.Disk.tells g.D.Disk.ports_fail (view_of new.core)
    (g.D.Disk.port_faults c.take-held.new.session.port) (g.D.Disk.port_faults c.tick-answer.new.port) c.tick-answer.result refl why in
    let marks : c.told_ticked-noted.result.items ≡ ticked_by passed c.tick-answer.result = c.told_ticked-noted.ensures ∙ ap (λ b. ticked_by b c.tick-answer.result)
    ((λ i. not (c.rounds.ensures i == c.rounds-before.ensures i)) ∙ rounds_tell (view_of old.core) (view_of new.core) c.args.to (ap (λ (f : Face). f.rounds) is.answers.face_is)) in
    let told = c.told_entries-said.ensures ∙ ap (λ n. entries_of n c.told_tick-call.result.items c.did_of-did.result) c.take-held.ensures.of.1 in
    tick_placed g.D.Disk.tells g.D.Disk.ports_fail (λ o. store_view o.engine) c.args.session.now.seat.me.0 c.take-held.new.session.seat.me.0 c.give.new.session.seat.me.0 (store_view old) (store_view new) c.args.session.now.caller c.args.to
    (ticked_by passed c.tick-answer.result) c.requires.ready.1 c.take-held.ensures.more c.take-held.ensures.since c.tick-answer.result
    (knows_made g.D.Disk.tells g.D.Disk.ports_fail (λ o. store_view o.engine) c.args.session.now.seat.me.0 c.take-held.new.session.seat.me.0 (store_view old) (store_view new) c.args.session.now.caller (Tick c.args.to)
    (result_err c.tick-answer.result) (ticked_face (view_of old.core) c.args.to) (ticked_by passed c.tick-answer.result) c.take-held.ensures.more c.take-held.ensures.since c.give.new.session.seat.me.0
    c.told_entries-said.result.items c.told_tick-call.result.items c.did_of-did.result c.told_ticked-noted.result.items told c.told_tick-call.ensures (c.did_of-did.ensures (Tick c.args.to)) marks (ap (λ m. m.0) c.give.ensures.given)) is.place

pub returns-clause-is_true : goal.returns-clause-is_true
returns-clause-is_true g c =
    let old = c.take-held.result.value.engine in
    let new = c.tick-answer.new.self in
    let is = c.tick-answer.ensures in
    let why = is.why in
    let passed = passes (view_of old.core) c.args.to in
    let begun = begun_so (view_of old.core) c.args.to c.tick-answer.result c.take-held.ensures.sound.writable.count is.stopped is.backwards is.exhausted is.pinned g.D.Disk.tells g.D.Disk.ports_fail (view_of new.core)
    (g.D.Disk.port_faults c.take-held.new.session.port) (g.D.Disk.port_faults c.tick-answer.new.port) c.tick-answer.result refl why in
    let marks : c.told_ticked-noted.result.items ≡ ticked_by passed c.tick-answer.result = c.told_ticked-noted.ensures ∙ ap (λ b. ticked_by b c.tick-answer.result)
    ((λ i. not (c.rounds.ensures i == c.rounds-before.ensures i)) ∙ rounds_tell (view_of old.core) (view_of new.core) c.args.to (ap (λ (f : Face). f.rounds) is.answers.face_is)) in
    let told = c.told_entries-said.ensures ∙ ap (λ n. entries_of n c.told_tick-call.result.items c.did_of-did.result) c.take-held.ensures.of.1 in
    tick_true g.D.Disk.tells g.D.Disk.ports_fail (λ o. store_view o.engine) c.args.session.now.seat.me.0 c.take-held.new.session.seat.me.0 c.give.new.session.seat.me.0 (store_view old) (store_view new) c.args.session.now.caller c.args.to
    (ticked_by passed c.tick-answer.result) c.requires.ready.1 c.take-held.ensures.more c.take-held.ensures.since c.tick-answer.result
    (knows_made g.D.Disk.tells g.D.Disk.ports_fail (λ o. store_view o.engine) c.args.session.now.seat.me.0 c.take-held.new.session.seat.me.0 (store_view old) (store_view new) c.args.session.now.caller (Tick c.args.to)
    (result_err c.tick-answer.result) (ticked_face (view_of old.core) c.args.to) (ticked_by passed c.tick-answer.result) c.take-held.ensures.more c.take-held.ensures.since c.give.new.session.seat.me.0
    c.told_entries-said.result.items c.told_tick-call.result.items c.did_of-did.result c.told_ticked-noted.result.items told c.told_tick-call.ensures (c.did_of-did.ensures (Tick c.args.to)) marks (ap (λ m. m.0) c.give.ensures.given)) (g.D.Disk.seen new.core.disk).directory is.is_true

pub returns-clause-stopped : goal.returns-clause-stopped
returns-clause-stopped g c = λ at stopped.
    (c.tick-answer.ensures.stopped at (stopped_before g.D.Disk.tells g.D.Disk.ports_fail (λ o. store_view o.engine) c.args.session.now.seat.me.0 c.take-held.new.session.seat.me.0 (store_view c.take-held.result.value.engine) at
    c.requires.ready.1 c.take-held.ensures.more c.take-held.ensures.since stopped)).0

pub returns-clause-due : goal.returns-clause-due
returns-clause-due g c =
    let old = c.take-held.result.value.engine in
    let new = c.tick-answer.new.self in
    let is = c.tick-answer.ensures in
    let why = is.why in
    let passed = passes (view_of old.core) c.args.to in
    let begun = begun_so (view_of old.core) c.args.to c.tick-answer.result c.take-held.ensures.sound.writable.count is.stopped is.backwards is.exhausted is.pinned g.D.Disk.tells g.D.Disk.ports_fail (view_of new.core)
    (g.D.Disk.port_faults c.take-held.new.session.port) (g.D.Disk.port_faults c.tick-answer.new.port) c.tick-answer.result refl why in
    let marks : c.told_ticked-noted.result.items ≡ ticked_by passed c.tick-answer.result = c.told_ticked-noted.ensures ∙ ap (λ b. ticked_by b c.tick-answer.result)
    ((λ i. not (c.rounds.ensures i == c.rounds-before.ensures i)) ∙ rounds_tell (view_of old.core) (view_of new.core) c.args.to (ap (λ (f : Face). f.rounds) is.answers.face_is)) in
    let told = c.told_entries-said.ensures ∙ ap (λ n. entries_of n c.told_tick-call.result.items c.did_of-did.result) c.take-held.ensures.of.1 in
    let leads = subst (λ m. IsLedTo (λ o. store_view o.engine) (Since g.D.Disk.tells g.D.Disk.ports_fail) m.0 (store_view new)) (sym c.give.ensures.given)
    (leads_behind g.D.Disk.tells g.D.Disk.ports_fail (λ o. store_view o.engine) c.args.session.now.seat.me.0 c.take-held.new.session.seat.me.0 (store_view old) (store_view new) c.args.session.now.caller (Tick c.args.to)
    (result_err c.tick-answer.result) (ticked_face (view_of old.core) c.args.to) (ticked_by passed c.tick-answer.result) c.take-held.ensures.more c.take-held.ensures.since
    c.told_entries-said.result.items c.told_tick-call.result.items c.did_of-did.result c.told_ticked-noted.result.items told c.told_tick-call.ensures (c.did_of-did.ensures (Tick c.args.to)) marks
    is.answers (first_failure_of_tick g.D.Disk.tells g.D.Disk.ports_fail c.args.to (view_of old.core) (view_of new.core) (g.D.Disk.port_faults c.take-held.new.session.port) (g.D.Disk.port_faults c.tick-answer.new.port) c.tick-answer.result why)
    (noted_tick g.D.Disk.tells g.D.Disk.ports_fail (g.D.Disk.port_faults c.take-held.new.session.port) (g.D.Disk.port_faults c.tick-answer.new.port) c.args.session.now.caller c.args.to (store_view old) (store_view new) (g.D.Disk.seen new.core.disk).directory c.tick-answer.result c.take-held.ensures.sound why begun is.answers is.place is.due is.kept is.is_true is.certified)) in
    tick_due g.D.Disk.tells g.D.Disk.ports_fail (λ o. store_view o.engine) c.give.new.session.seat.me.0 (store_view new) c.args.to c.tick-answer.result leads is.due

pub returns-clause-why : goal.returns-clause-why
returns-clause-why g c =
    let old = c.take-held.result.value.engine in
    let new = c.tick-answer.new.self in
    let is = c.tick-answer.ensures in
    let why = is.why in
    let passed = passes (view_of old.core) c.args.to in
    let begun = begun_so (view_of old.core) c.args.to c.tick-answer.result c.take-held.ensures.sound.writable.count is.stopped is.backwards is.exhausted is.pinned g.D.Disk.tells g.D.Disk.ports_fail (view_of new.core)
    (g.D.Disk.port_faults c.take-held.new.session.port) (g.D.Disk.port_faults c.tick-answer.new.port) c.tick-answer.result refl why in
    let marks : c.told_ticked-noted.result.items ≡ ticked_by passed c.tick-answer.result = c.told_ticked-noted.ensures ∙ ap (λ b. ticked_by b c.tick-answer.result)
    ((λ i. not (c.rounds.ensures i == c.rounds-before.ensures i)) ∙ rounds_tell (view_of old.core) (view_of new.core) c.args.to (ap (λ (f : Face). f.rounds) is.answers.face_is)) in
    let told = c.told_entries-said.ensures ∙ ap (λ n. entries_of n c.told_tick-call.result.items c.did_of-did.result) c.take-held.ensures.of.1 in
    let leads = subst (λ m. IsLedTo (λ o. store_view o.engine) (Since g.D.Disk.tells g.D.Disk.ports_fail) m.0 (store_view new)) (sym c.give.ensures.given)
    (leads_behind g.D.Disk.tells g.D.Disk.ports_fail (λ o. store_view o.engine) c.args.session.now.seat.me.0 c.take-held.new.session.seat.me.0 (store_view old) (store_view new) c.args.session.now.caller (Tick c.args.to)
    (result_err c.tick-answer.result) (ticked_face (view_of old.core) c.args.to) (ticked_by passed c.tick-answer.result) c.take-held.ensures.more c.take-held.ensures.since
    c.told_entries-said.result.items c.told_tick-call.result.items c.did_of-did.result c.told_ticked-noted.result.items told c.told_tick-call.ensures (c.did_of-did.ensures (Tick c.args.to)) marks
    is.answers (first_failure_of_tick g.D.Disk.tells g.D.Disk.ports_fail c.args.to (view_of old.core) (view_of new.core) (g.D.Disk.port_faults c.take-held.new.session.port) (g.D.Disk.port_faults c.tick-answer.new.port) c.tick-answer.result why)
    (noted_tick g.D.Disk.tells g.D.Disk.ports_fail (g.D.Disk.port_faults c.take-held.new.session.port) (g.D.Disk.port_faults c.tick-answer.new.port) c.args.session.now.caller c.args.to (store_view old) (store_view new) (g.D.Disk.seen new.core.disk).directory c.tick-answer.result c.take-held.ensures.sound why begun is.answers is.place is.due is.kept is.is_true is.certified)) in
    let result = c.tick-answer.result in
    let x = c.give.new.session.seat.me.0 in
    let first = c.take-held.new.session.port in
    let last = c.tick-answer.new.port in
    subst (λ p. IfErr result (HasReasonOfTick g.D.Disk.tells g.D.Disk.ports_fail c.args.to (λ o. store_view o.engine) x (counts_of (g.D.Disk.fetches p) (g.D.Disk.port_faults p))
    (counts_of (g.D.Disk.fetches c.give.new.session.port) (g.D.Disk.port_faults c.give.new.session.port)))) c.take-held.ensures.of.2
    (subst (λ p. IfErr result (HasReasonOfTick g.D.Disk.tells g.D.Disk.ports_fail c.args.to (λ o. store_view o.engine) x (counts_of (g.D.Disk.fetches first) (g.D.Disk.port_faults first))
    (counts_of (g.D.Disk.fetches p) (g.D.Disk.port_faults p)))) (sym c.give.ensures.of.2)
    (reason_of_tick g.D.Disk.tells g.D.Disk.ports_fail (λ o. store_view o.engine) c.args.session.now.seat.me.0 c.take-held.new.session.seat.me.0 x (store_view old) (store_view new) c.args.session.now.caller c.args.to
    (ticked_by passed result) c.requires.ready.1 c.take-held.ensures.more c.take-held.ensures.since leads (counts_of (g.D.Disk.fetches first) (g.D.Disk.port_faults first)) (counts_of (g.D.Disk.fetches last) (g.D.Disk.port_faults last))
    is.pins result why is.answers (λ name damaged. (is.damaged name damaged).1)
    (knows_made g.D.Disk.tells g.D.Disk.ports_fail (λ o. store_view o.engine) c.args.session.now.seat.me.0 c.take-held.new.session.seat.me.0 (store_view old) (store_view new) c.args.session.now.caller (Tick c.args.to)
    (result_err c.tick-answer.result) (ticked_face (view_of old.core) c.args.to) (ticked_by passed c.tick-answer.result) c.take-held.ensures.more c.take-held.ensures.since c.give.new.session.seat.me.0
    c.told_entries-said.result.items c.told_tick-call.result.items c.did_of-did.result c.told_ticked-noted.result.items told c.told_tick-call.ensures (c.did_of-did.ensures (Tick c.args.to)) marks (ap (λ m. m.0) c.give.ensures.given))))
