use Rattle.std.proofs.Common.{[], ap, ◌∙◌}
use Rattle.lethe_store.specs.StoreViews.{store_view}
use Rattle.lethe_store.specs.Since.{all_counted}
use Rattle.lethe_turn.specs.Seats.{passed}
use Rattle.lethe_store.proofs.Behind.{clock_at, clock_seen, leads_passed}
use Rattle.lethe_store.proofs.Seats.{looked, looked_ready}
use Rattle.lethe_store.proofs.reading.Store+D+Changes.stat.Goals as goal

pub returns-clause-ready : goal.returns-clause-ready
returns-clause-ready g c =
    looked_ready all_counted (λ o. store_view o.engine) c.args.session.now.seat.me c.take-held.new.session.seat.me.0 c.put_back.new.session.seat.me c.requires.ready c.take-held.ensures.more
    (c.put_back.ensures.passed ∙ ap (λ m. (passed m.0, [])) c.learn-at.ensures.same)

pub returns-clause-done : goal.returns-clause-done
returns-clause-done g c =
    looked c.args.session.now.seat.me.0 c.take-held.new.session.seat.me.0 c.put_back.new.session.seat.me.0 c.take-held.ensures.more
    (ap (λ m. m.0) c.put_back.ensures.passed ∙ ap (λ m. passed m.0) c.learn-at.ensures.same)

pub returns-clause-clock : goal.returns-clause-clock
returns-clause-clock g c =
    let x = c.put_back.new.session.seat.me.0 in
    let shown = store_view c.take-held.result.value.engine in
    clock_at g.D.Disk.tells g.D.Disk.ports_fail (λ o. store_view o.engine) x shown c.stat-answer.result.clock
    (leads_passed g.D.Disk.tells g.D.Disk.ports_fail (λ o. store_view o.engine) c.take-held.new.session.seat.me.0 x shown c.take-held.ensures.since
    (ap (λ m. m.0) c.put_back.ensures.passed ∙ ap (λ m. passed m.0) c.learn-at.ensures.same)) c.stat-answer.ensures.stat

pub returns-clause-seen : goal.returns-clause-seen
returns-clause-seen g c =
    let x = c.put_back.new.session.seat.me.0 in
    let shown = store_view c.take-held.result.value.engine in
    clock_seen g.D.Disk.tells g.D.Disk.ports_fail (λ o. store_view o.engine) x shown c.stat-answer.result.clock
    (leads_passed g.D.Disk.tells g.D.Disk.ports_fail (λ o. store_view o.engine) c.take-held.new.session.seat.me.0 x shown c.take-held.ensures.since
    (ap (λ m. m.0) c.put_back.ensures.passed ∙ ap (λ m. passed m.0) c.learn-at.ensures.same)) c.stat-answer.ensures.clock
