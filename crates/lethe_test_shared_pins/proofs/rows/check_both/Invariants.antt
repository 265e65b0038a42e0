use Rattle.std.proofs.Common.{◌≡◌}
use Rattle.lethe_store.specs.StoreViews.{store_view}
use Rattle.lethe_store.specs.Since.{all_counted}
use Rattle.lethe_store.specs.Sessions.{IsReady}
use Rattle.lethe_test_shared_pins.proofs.rows.check_both.Given as goal

abbrev pub invariant-loop-row : goal.invariant-loop-row
invariant-loop-row g l = (l.one.seat.table_id ≡ l.initial.one.seat.table_id) × IsReady all_counted (λ o. store_view o.engine) l.one.seat.me × (l.other.seat.table_id ≡ l.initial.other.seat.table_id) × IsReady all_counted (λ o. store_view o.engine) l.other.seat.me
