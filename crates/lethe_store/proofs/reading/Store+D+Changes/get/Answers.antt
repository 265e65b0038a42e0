use Rattle.std.proofs.Common.{◌≡◌, [], sym, ap, ◌∙◌, subst}
use Rattle.lethe_base.specs.History.{after}
use Rattle.lethe_base.specs.Read.{Get, Found, answer}
use Rattle.lethe_store.specs.StoreViews.{store_view}
use Rattle.lethe_store.specs.Reasons.{HasReasonOfRead, counts_of}
use Rattle.lethe_store.specs.Since.{all_counted}
use Rattle.lethe_turn.specs.Seats.{passed}
use Rattle.lethe_store.proofs.Behind.{err_of, leads_passed, ok_of, read_at, reason_of_read}
use Rattle.lethe_store.proofs.Seats.{looked, looked_ready}
use Rattle.lethe_store.proofs.reading.Store+D+Changes.get.Goals as goal

pub returns-in-Ok-clause-ready : goal.returns-in-Ok-clause-ready
returns-in-Ok-clause-ready g c =
    looked_ready all_counted (λ o. store_view o.engine) c.args.session.now.seat.me c.take-held.new.session.seat.me.0 c.put_back.new.session.seat.me c.requires.ready c.take-held.ensures.more
    (c.put_back.ensures.passed ∙ ap (λ m. (passed m.0, [])) c.learn-at.ensures.same)

pub returns-in-Ok-clause-done : goal.returns-in-Ok-clause-done
returns-in-Ok-clause-done g c =
    looked c.args.session.now.seat.me.0 c.take-held.new.session.seat.me.0 c.put_back.new.session.seat.me.0 c.take-held.ensures.more
    (ap (λ m. m.0) c.put_back.ensures.passed ∙ ap (λ m. passed m.0) c.learn-at.ensures.same)

pub returns-in-Ok-clause-answer : goal.returns-in-Ok-clause-answer
returns-in-Ok-clause-answer g c =
    let w = c.take-held.new.session.seat.me.0 in
    let x = c.put_back.new.session.seat.me.0 in
    let shown = store_view c.take-held.result.value.engine in
    read_at g.D.Disk.tells g.D.Disk.ports_fail (λ o. store_view o.engine) x shown (Get c.args.key.now) (Found c.in-Ok.found)
    (leads_passed g.D.Disk.tells g.D.Disk.ports_fail (λ o. store_view o.engine) w x shown c.take-held.ensures.since (ap (λ m. m.0) c.put_back.ensures.passed ∙ ap (λ m. passed m.0) c.learn-at.ensures.same))
    (λ told config h stands. ok_of (λ held. answer (after h) (Get c.args.key.now) ≡ Found held) c.get-answer.result (c.get-answer.ensures.answer told config h stands) c.in-Ok.found c.in-Ok.is)

pub returns-in-Err-clause-ready : goal.returns-in-Err-clause-ready
returns-in-Err-clause-ready g c =
    looked_ready all_counted (λ o. store_view o.engine) c.args.session.now.seat.me c.take-held.new.session.seat.me.0 c.put_back.new.session.seat.me c.requires.ready c.take-held.ensures.more
    (c.put_back.ensures.passed ∙ ap (λ m. (passed m.0, [])) c.learn-at.ensures.same)

pub returns-in-Err-clause-done : goal.returns-in-Err-clause-done
returns-in-Err-clause-done g c =
    looked c.args.session.now.seat.me.0 c.take-held.new.session.seat.me.0 c.put_back.new.session.seat.me.0 c.take-held.ensures.more
    (ap (λ m. m.0) c.put_back.ensures.passed ∙ ap (λ m. passed m.0) c.learn-at.ensures.same)

pub returns-in-Err-clause-why : goal.returns-in-Err-clause-why
returns-in-Err-clause-why g c =
    let first = c.learn-at.new.session.port in
    let last = c.get-answer.new.port in
    subst (λ p. HasReasonOfRead g.D.Disk.tells g.D.Disk.ports_fail (counts_of (g.D.Disk.fetches p) (g.D.Disk.port_faults p))
    (counts_of (g.D.Disk.fetches c.put_back.new.session.port) (g.D.Disk.port_faults c.put_back.new.session.port)) c.in-Err.why) (c.learn-at.ensures.of.2 ∙ c.take-held.ensures.of.2)
    (subst (λ p. HasReasonOfRead g.D.Disk.tells g.D.Disk.ports_fail (counts_of (g.D.Disk.fetches first) (g.D.Disk.port_faults first))
    (counts_of (g.D.Disk.fetches p) (g.D.Disk.port_faults p)) c.in-Err.why) (sym c.put_back.ensures.of.2)
    (err_of (HasReasonOfRead g.D.Disk.tells g.D.Disk.ports_fail (counts_of (g.D.Disk.fetches first) (g.D.Disk.port_faults first)) (counts_of (g.D.Disk.fetches last) (g.D.Disk.port_faults last))) c.get-answer.result
    (reason_of_read g.D.Disk.tells g.D.Disk.ports_fail (counts_of (g.D.Disk.fetches first) (g.D.Disk.port_faults first)) (counts_of (g.D.Disk.fetches last) (g.D.Disk.port_faults last)) c.get-answer.result
    c.get-answer.ensures.why
    (λ name is. ((λ told. c.get-answer.ensures.undamaged told c.take-held.ensures.sound name is), (c.get-answer.ensures.damaged name is).1))
    (λ before after is. let f = c.get-answer.ensures.fault before after is in (c.get-answer.ensures.can_fail before after is, f.0, f.1, f.2)))
    c.in-Err.why c.in-Err.is))
