use Rattle.std.proofs.Common.{◌∙◌}
use Rattle.lethe_store.specs.StoreViews.{store_view}
use Rattle.lethe_store.proofs.store.Store.take.Goals as goal

pub returns-clause-sound : goal.returns-clause-sound
returns-clause-sound g c =
    let r = c.requires.ready.1 in
    let w = c.take.new.seat.me.0 in
    g.L.Log.sound g.D.Disk.tells g.D.Disk.ports_fail (store_view r.0.engine) w.seen w.noted (store_view c.take.result.value.engine) (c.take.ensures.since r.0 (c.take.ensures.more.opened ∙ r.1))
