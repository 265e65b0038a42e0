use Rattle.std.proofs.Common.{◌≡◌}
use Rattle.lethe_store.specs.StoreViews.{store_view}
use Rattle.lethe_store.specs.Since.{all_counted}
use Rattle.lethe_store.specs.Sessions.{IsReady}
use Rattle.lethe_test_shared.proofs.fifty.fifty.Given as goal

abbrev pub invariant-loop-number : goal.invariant-loop-number
invariant-loop-number g l = (l.session.seat.table_id ≡ l.initial.session.seat.table_id) × IsReady all_counted (λ o. store_view o.engine) l.session.seat.me
