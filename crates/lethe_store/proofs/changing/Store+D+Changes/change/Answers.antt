use Rattle.std.proofs.Common.{length, sym, ap, ◌∙◌, subst}
use Rattle.std.specs.Prelude.{IfErr}
use Rattle.std.specs.Result.{result_err}
use Rattle.lethe_core.specs.View.{face_of, view_of}
use Rattle.lethe_engine.specs.ChangeRows.{call_of}
use Rattle.lethe_store.specs.StoreViews.{store_view}
use Rattle.lethe_store.specs.Entries.{entries_by, entries_of}
use Rattle.lethe_store.specs.Diary.{spent_by}
use Rattle.lethe_store.specs.Laws.{noted_spent}
use Rattle.lethe_store.specs.Reasons.{HasReasonOfChange, counts_of}
use Rattle.lethe_core.specs.Asked.{Makes}
use Rattle.lethe_store.specs.Since.{all_counted}
use Rattle.lethe_store.proofs.Behind.{first_failure, knows_made, leads_behind, placed_at, reason_behind, room_behind, stopped_before}
use Rattle.lethe_store.proofs.Seats.{done_so, ready_after}
use Rattle.lethe_store.proofs.Spent.{spent_change}
use Rattle.lethe_store.proofs.changing.Store+D+Changes.change.Goals as goal

pub give-requires-clause-number : goal.give-requires-clause-number
give-requires-clause-number g c κs within =
    let caller = c.take-held.new.session.caller in
    ap length (c.told_entries-said.ensures ∙ ap (λ l. entries_of caller l c.did_of-did.result) c.told_call-call.ensures) ∙ c.number_of.ensures caller (call_of c.args.asked)

pub give-requires-clause-room : goal.give-requires-clause-room
give-requires-clause-room g c κs within =
    let old = c.take-held.result.value.engine in
    let new = c.make-answer.new.engine in
    room_behind g.D.Disk.tells g.D.Disk.ports_fail (λ o. store_view o.engine) c.args.session.now.seat.me.0 c.take-held.new.session.seat.me.0 (store_view old) (store_view new) c.args.session.now.caller (call_of c.args.asked)
    (result_err c.make-answer.result) (face_of (view_of c.take-held.result.value.engine.core)) (spent_by (result_err c.make-answer.result)) c.take-held.ensures.more c.take-held.ensures.since
    c.told_entries-said.result.items c.told_call-call.result.items c.did_of-did.result c.told_answer-noted.result.items
    (c.told_entries-said.ensures ∙ ap (λ n. entries_of n c.told_call-call.result.items c.did_of-did.result) c.take-held.ensures.of.1) c.told_call-call.ensures (c.did_of-did.ensures (call_of c.args.asked)) c.told_answer-noted.ensures
    c.make-answer.ensures.answers
    (first_failure g.D.Disk.tells g.D.Disk.ports_fail (view_of old.core) (view_of new.core) (g.D.Disk.port_faults c.take-held.new.session.port) (g.D.Disk.port_faults c.make-answer.new.port) c.make-answer.result c.make-answer.ensures.why)
    (noted_spent g.D.Disk.tells c.args.session.now.caller (Makes (call_of c.args.asked)) (result_err c.make-answer.result) (store_view old) (store_view new) c.make-answer.ensures.answers.face_is (ap (λ l. l.items) c.make-answer.ensures.certificates)
    (spent_change g.D.Disk.tells g.D.Disk.ports_fail (store_view old) (store_view new) (call_of c.args.asked) _ (g.D.Disk.port_faults c.take-held.new.session.port) (g.D.Disk.port_faults c.make-answer.new.port) c.take-held.ensures.sound c.make-answer.result c.make-answer.ensures.answers c.make-answer.ensures.why)) c.requires.ready.1

pub give-requires-clause-since : goal.give-requires-clause-since
give-requires-clause-since g c κs within =
    let old = c.take-held.result.value.engine in
    let new = c.make-answer.new.engine in
    leads_behind g.D.Disk.tells g.D.Disk.ports_fail (λ o. store_view o.engine) c.args.session.now.seat.me.0 c.take-held.new.session.seat.me.0 (store_view old) (store_view new) c.args.session.now.caller (call_of c.args.asked)
    (result_err c.make-answer.result) (face_of (view_of c.take-held.result.value.engine.core)) (spent_by (result_err c.make-answer.result)) c.take-held.ensures.more c.take-held.ensures.since
    c.told_entries-said.result.items c.told_call-call.result.items c.did_of-did.result c.told_answer-noted.result.items
    (c.told_entries-said.ensures ∙ ap (λ n. entries_of n c.told_call-call.result.items c.did_of-did.result) c.take-held.ensures.of.1) c.told_call-call.ensures (c.did_of-did.ensures (call_of c.args.asked)) c.told_answer-noted.ensures
    c.make-answer.ensures.answers
    (first_failure g.D.Disk.tells g.D.Disk.ports_fail (view_of old.core) (view_of new.core) (g.D.Disk.port_faults c.take-held.new.session.port) (g.D.Disk.port_faults c.make-answer.new.port) c.make-answer.result c.make-answer.ensures.why)
    (noted_spent g.D.Disk.tells c.args.session.now.caller (Makes (call_of c.args.asked)) (result_err c.make-answer.result) (store_view old) (store_view new) c.make-answer.ensures.answers.face_is (ap (λ l. l.items) c.make-answer.ensures.certificates)
    (spent_change g.D.Disk.tells g.D.Disk.ports_fail (store_view old) (store_view new) (call_of c.args.asked) _ (g.D.Disk.port_faults c.take-held.new.session.port) (g.D.Disk.port_faults c.make-answer.new.port) c.take-held.ensures.sound c.make-answer.result c.make-answer.ensures.answers c.make-answer.ensures.why))

pub returns-clause-ready : goal.returns-clause-ready
returns-clause-ready g c =
    ready_after all_counted (λ o. store_view o.engine) c.args.session.now.seat.me c.take-held.new.session.seat.me.0 c.give.new.session.seat.me c.told_entries-said.result.items c.told_answer-noted.result.items
    c.requires.ready c.take-held.ensures.more c.give.ensures.given

pub returns-clause-done : goal.returns-clause-done
returns-clause-done g c =
    let v = c.args.session.now.seat.me.0 in
    let w = c.take-held.new.session.seat.me.0 in
    let x = c.give.new.session.seat.me.0 in
    done_so v w x (entries_by c.args.session.now.caller (Makes (call_of c.args.asked)) (result_err c.make-answer.result)) (spent_by (result_err c.make-answer.result)) c.take-held.ensures.more
    (knows_made g.D.Disk.tells g.D.Disk.ports_fail (λ o. store_view o.engine) v w (store_view c.take-held.result.value.engine) (store_view c.make-answer.new.engine) c.args.session.now.caller (call_of c.args.asked)
    (result_err c.make-answer.result) (face_of (view_of c.take-held.result.value.engine.core)) (spent_by (result_err c.make-answer.result)) c.take-held.ensures.more c.take-held.ensures.since x
    c.told_entries-said.result.items c.told_call-call.result.items c.did_of-did.result c.told_answer-noted.result.items
    (c.told_entries-said.ensures ∙ ap (λ n. entries_of n c.told_call-call.result.items c.did_of-did.result) c.take-held.ensures.of.1) c.told_call-call.ensures (c.did_of-did.ensures (call_of c.args.asked)) c.told_answer-noted.ensures
    (ap (λ m. m.0) c.give.ensures.given))

pub returns-clause-place : goal.returns-clause-place
returns-clause-place g c =
    let v = c.args.session.now.seat.me.0 in
    let w = c.take-held.new.session.seat.me.0 in
    let x = c.give.new.session.seat.me.0 in
    placed_at g.D.Disk.tells g.D.Disk.ports_fail (λ o. store_view o.engine) v w x (store_view c.take-held.result.value.engine) c.args.session.now.caller (call_of c.args.asked) c.make-answer.result (spent_by (result_err c.make-answer.result)) c.requires.ready.1
    c.take-held.ensures.more c.take-held.ensures.since c.make-answer.ensures.place
    (knows_made g.D.Disk.tells g.D.Disk.ports_fail (λ o. store_view o.engine) v w (store_view c.take-held.result.value.engine) (store_view c.make-answer.new.engine) c.args.session.now.caller (call_of c.args.asked)
    (result_err c.make-answer.result) (face_of (view_of c.take-held.result.value.engine.core)) (spent_by (result_err c.make-answer.result)) c.take-held.ensures.more c.take-held.ensures.since x
    c.told_entries-said.result.items c.told_call-call.result.items c.did_of-did.result c.told_answer-noted.result.items
    (c.told_entries-said.ensures ∙ ap (λ n. entries_of n c.told_call-call.result.items c.did_of-did.result) c.take-held.ensures.of.1) c.told_call-call.ensures (c.did_of-did.ensures (call_of c.args.asked)) c.told_answer-noted.ensures
    (ap (λ m. m.0) c.give.ensures.given))

pub returns-clause-stopped : goal.returns-clause-stopped
returns-clause-stopped g c = λ at stopped.
    c.make-answer.ensures.stopped at (stopped_before g.D.Disk.tells g.D.Disk.ports_fail (λ o. store_view o.engine) c.args.session.now.seat.me.0 c.take-held.new.session.seat.me.0 (store_view c.take-held.result.value.engine) at
    c.requires.ready.1 c.take-held.ensures.more c.take-held.ensures.since stopped)

pub returns-clause-why : goal.returns-clause-why
returns-clause-why g c =
    let v = c.args.session.now.seat.me.0 in
    let w = c.take-held.new.session.seat.me.0 in
    let x = c.give.new.session.seat.me.0 in
    let result = c.make-answer.result in
    let first = c.take-held.new.session.port in
    let last = c.make-answer.new.port in
    subst (λ p. IfErr result (HasReasonOfChange g.D.Disk.tells g.D.Disk.ports_fail (λ o. store_view o.engine) x (counts_of (g.D.Disk.fetches p) (g.D.Disk.port_faults p))
    (counts_of (g.D.Disk.fetches c.give.new.session.port) (g.D.Disk.port_faults c.give.new.session.port)))) c.take-held.ensures.of.2
    (subst (λ p. IfErr result (HasReasonOfChange g.D.Disk.tells g.D.Disk.ports_fail (λ o. store_view o.engine) x (counts_of (g.D.Disk.fetches first) (g.D.Disk.port_faults first))
    (counts_of (g.D.Disk.fetches p) (g.D.Disk.port_faults p)))) (sym c.give.ensures.of.2)
    (reason_behind g.D.Disk.tells g.D.Disk.ports_fail (λ o. store_view o.engine) v w x (store_view c.take-held.result.value.engine) (store_view c.make-answer.new.engine) c.args.session.now.caller (call_of c.args.asked)
    (spent_by (result_err c.make-answer.result)) c.requires.ready.1 c.take-held.ensures.more c.take-held.ensures.since (counts_of (g.D.Disk.fetches first) (g.D.Disk.port_faults first)) (counts_of (g.D.Disk.fetches last) (g.D.Disk.port_faults last))
    result c.make-answer.ensures.why c.make-answer.ensures.damaged
    (knows_made g.D.Disk.tells g.D.Disk.ports_fail (λ o. store_view o.engine) v w (store_view c.take-held.result.value.engine) (store_view c.make-answer.new.engine) c.args.session.now.caller (call_of c.args.asked)
    (result_err result) (face_of (view_of c.take-held.result.value.engine.core)) (spent_by (result_err c.make-answer.result)) c.take-held.ensures.more c.take-held.ensures.since x
    c.told_entries-said.result.items c.told_call-call.result.items c.did_of-did.result c.told_answer-noted.result.items
    (c.told_entries-said.ensures ∙ ap (λ n. entries_of n c.told_call-call.result.items c.did_of-did.result) c.take-held.ensures.of.1) c.told_call-call.ensures (c.did_of-did.ensures (call_of c.args.asked)) c.told_answer-noted.ensures
    (ap (λ m. m.0) c.give.ensures.given))))
