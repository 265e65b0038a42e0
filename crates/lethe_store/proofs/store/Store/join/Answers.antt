use Rattle.lethe_store.specs.StoreViews.{store_view}
use Rattle.lethe_store.proofs.Seats.{ready_joined}
use Rattle.lethe_store.proofs.store.Store.join.Goals as goal

pub returns-clause-ready : goal.returns-clause-ready
returns-clause-ready g c =
    ready_joined g.L.Log.start (λ o. store_view o.engine) c.args.session.now.seat.me c.args.other.seat.me.0 c.join.new.seat.me c.requires.ready.0 c.join.ensures.free c.join.ensures.joined
