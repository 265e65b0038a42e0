use Rattle.std.proofs.Common.{◌≡◌}
use Rattle.lethe_store.specs.StoreViews.{store_view}
use Rattle.lethe_store.specs.Since.{all_counted}
use Rattle.lethe_store.specs.Sessions.{IsReady}
use Rattle.lethe_test_shared_pins.proofs.asks.check_rows.Given as goal

abbrev pub invariant-loop-row : goal.invariant-loop-row
invariant-loop-row g l = (l.session.seat.table_id ≡ l.initial.session.seat.table_id) × IsReady all_counted (λ o. store_view o.engine) l.session.seat.me
