use Rattle.std.proofs.Common.{subst}
use Rattle.std.specs.Prelude.{IfOk}
use Rattle.lethe_store.specs.StoreViews.{store_view}
use Rattle.lethe_store.specs.Sessions.{IsFirst}
use Rattle.lethe_store.proofs.changes.Store+D+Changes.open.Goals as goal

pub returns-clause-first : goal.returns-clause-first
returns-clause-first g c =
    subst (λ n. IfOk c.open_with.result (λ r. IsFirst g.D.Disk.tells (λ o. store_view o.engine) (store_view c.args.engine) n r.1.seat.me)) c.count-count.ensures c.open_with.ensures.first
