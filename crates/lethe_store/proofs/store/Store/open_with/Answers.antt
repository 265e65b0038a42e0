use Rattle.std.proofs.Common.{sym, ap, ◌∙◌}
use Rattle.lethe_store.specs.StoreViews.{store_view}
use Rattle.lethe_store.specs.Laws.{same_behind_port}
use Rattle.lethe_store.proofs.Seats.{first_of, ready_first}
use Rattle.lethe_store.proofs.store.Store.open_with.Goals as goal

pub new-requires-clause-since : goal.new-requires-clause-since
new-requires-clause-since g c = g.L.Log.opens g.D.Disk.tells g.D.Disk.ports_fail (store_view c.new_port.new.self) c.new_port.ensures.answers.sound

pub returns-in-Ok-new-clause-ready : goal.returns-in-Ok-new-clause-ready
returns-in-Ok-new-clause-ready g c =
    ready_first g.L.Log.start (λ o. store_view o.engine) _ c.args.count c.in-Ok-new.seat.me c.in-Ok-new.ensures.ok.1 (c.requires.count ∙ ap (λ s. g.L.Log.start s.count) (sym c.new_port.ensures.same.0))

pub returns-in-Ok-new-clause-first : goal.returns-in-Ok-new-clause-first
returns-in-Ok-new-clause-first g c =
    first_of g.D.Disk.tells (λ o. store_view o.engine) (store_view c.args.engine) c.args.count c.in-Ok-new.seat.me _ c.in-Ok-new.ensures.ok.1
    (same_behind_port g.D.Disk.tells (store_view c.args.engine) (store_view c.new_port.new.self) c.new_port.result c.new_port.ensures.answers c.new_port.ensures.same.0 c.new_port.ensures.pins
    (ap (λ l. l.items) c.new_port.ensures.certificates))
