use Rattle.std.proofs.Common.{◌∙◌}
use Rattle.lethe_store.specs.StoreViews.{store_view}
use Rattle.lethe_store.proofs.store.Store.finish.Goals as goal

pub returns-clause-sound : goal.returns-clause-sound
returns-clause-sound g c =
    let r = c.requires.ready.1 in
    let done = c.finish-engine.ensures in
    g.L.Log.sound g.D.Disk.tells g.D.Disk.ports_fail (store_view r.0.engine) done.last.seen done.last.noted (store_view c.finish-engine.result.engine) (done.leads r.0 (done.more.opened ∙ r.1))
