use Rattle.std.proofs.Common.{◌<◌, sym, ap, ◌∙◌, subst}
use Rattle.lethe_store.specs.StoreViews.{store_view}
use Rattle.lethe_store.specs.Laws.{same_behind_port}
use Rattle.lethe_store.proofs.Seats.{looked_ready, ready_left, ready_right, split_so}
use Rattle.lethe_store.proofs.store.Store.split.Goals as goal

pub put_back-requires-clause-since : goal.put_back-requires-clause-since
put_back-requires-clause-since g c κs within o is =
    let w = c.take-held.new.session.seat.me.0 in
    let old = c.take-held.result.value.engine in
    g.L.Log.stays g.D.Disk.tells g.D.Disk.ports_fail (store_view o.engine) w.seen w.noted (store_view old) (store_view c.new_port-port.new.self) (c.take-held.ensures.since o is)
    (same_behind_port g.D.Disk.tells (store_view old) (store_view c.new_port-port.new.self) c.new_port-port.result c.new_port-port.ensures.answers c.new_port-port.ensures.same.0 c.new_port-port.ensures.pins
    (ap (λ l. l.items) c.new_port-port.ensures.certificates))

pub returns-in-Ok-clause-ready : goal.returns-in-Ok-clause-ready
returns-in-Ok-clause-ready g c =
    let more = c.take-held.ensures.more in
    let passed = c.put_back.ensures.passed in
    ready_left g.L.Log.start (λ o. store_view o.engine) c.put_back.new.session.seat.me c.split-seat.new.seat.me
    (looked_ready g.L.Log.start (λ o. store_view o.engine) c.args.session.now.seat.me c.take-held.new.session.seat.me.0 c.put_back.new.session.seat.me c.requires.ready more passed)
    (subst (λ n. 1 < n) (sym (ap (λ m. m.0.parts) passed ∙ more.parts)) c.requires.parts) c.split-seat.ensures.old

pub returns-in-Ok-clause-other_ready : goal.returns-in-Ok-clause-other_ready
returns-in-Ok-clause-other_ready g c =
    let more = c.take-held.ensures.more in
    let passed = c.put_back.ensures.passed in
    ready_right g.L.Log.start (λ o. store_view o.engine) c.put_back.new.session.seat.me c.split-seat.result.me
    (looked_ready g.L.Log.start (λ o. store_view o.engine) c.args.session.now.seat.me c.take-held.new.session.seat.me.0 c.put_back.new.session.seat.me c.requires.ready more passed)
    (subst (λ n. 1 < n) (sym (ap (λ m. m.0.parts) passed ∙ more.parts)) c.requires.parts) c.split-seat.ensures.new

pub returns-in-Ok-clause-split : goal.returns-in-Ok-clause-split
returns-in-Ok-clause-split g c =
    split_so c.args.session.now.seat.me.0 c.take-held.new.session.seat.me.0 c.put_back.new.session.seat.me.0 c.split-seat.new.seat.me c.split-seat.result.me c.take-held.ensures.more
    (ap (λ m. m.0) c.put_back.ensures.passed) (ap (λ m. m.0) c.split-seat.ensures.old) (ap (λ m. m.0) c.split-seat.ensures.new)

pub returns-in-Err-clause-ready : goal.returns-in-Err-clause-ready
returns-in-Err-clause-ready g c =
    looked_ready g.L.Log.start (λ o. store_view o.engine) c.args.session.now.seat.me c.take-held.new.session.seat.me.0 c.put_back.new.session.seat.me c.requires.ready c.take-held.ensures.more c.put_back.ensures.passed
