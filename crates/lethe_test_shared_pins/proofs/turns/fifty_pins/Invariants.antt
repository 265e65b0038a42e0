use Rattle.std.proofs.Common.{◌≡◌}
use Rattle.lethe_store.specs.StoreViews.{store_view}
use Rattle.lethe_store.specs.Since.{all_counted}
use Rattle.lethe_store.specs.Sessions.{IsReady}
use Rattle.lethe_test_shared_pins.proofs.turns.fifty_pins.Given as goal

abbrev pub invariant-loop : goal.invariant-loop
invariant-loop g l = (l.session.seat.table_id ≡ l.initial.session.seat.table_id) × IsReady all_counted (λ o. store_view o.engine) l.session.seat.me
