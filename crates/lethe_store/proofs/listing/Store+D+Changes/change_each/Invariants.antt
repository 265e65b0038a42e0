use Rattle.std.proofs.Common.{◌≡◌, ◌≤◌, ◌+◌, ℕ, [], ◌++◌, length}
use Rattle.std.specs.Prelude.{vec_capacity, vec_len}
use Rattle.lethe_store.specs.Reasons.{AreLater, IsStoppedAt, counts_of}
use Rattle.lethe_store.specs.Rows.{most_in_row}
use Rattle.lethe_store.specs.Sessions.{IsReady}
use Rattle.lethe_store.specs.Since.{all_counted}
use Rattle.lethe_store.specs.StoreViews.{store_view}
use Rattle.lethe_store.proofs.Listed.{IsListed}
use Rattle.lethe_store.proofs.listing.Store+D+Changes.change_each.Given as goal

-- the first ones were made, turn by turn, and the others wait in the row and behind it
abbrev pub invariant-loop-alloc : goal.invariant-loop-alloc
invariant-loop-alloc g l = record {
  of : (l.session.seat.table_id ≡ l.fn.session.seat.table_id) × (l.session.caller ≡ l.fn.session.caller);
  ready : IsReady all_counted (λ o. store_view o.engine) l.session.seat.me;
  listed : IsListed l.fn.session.caller l.fn.left.items l.places.items (l.row.items ++ l.left.items) l.fn.session.seat.me.0 l.session.seat.me.0;
  few : length l.row.items ≤ most_in_row;
  len : vec_len l.places + length (l.row.items ++ l.left.items) ≡ length l.fn.left.items;
  room : length l.fn.left.items ≤ vec_capacity l.places;
  stopped : (at : ℕ) → IsStoppedAt (λ o. store_view o.engine) l.fn.session.seat.me.0 at → l.places.items ≡ [];
  counts : AreLater (counts_of (g.D.Disk.fetches l.fn.session.port) (g.D.Disk.port_faults l.fn.session.port)) (counts_of (g.D.Disk.fetches l.session.port) (g.D.Disk.port_faults l.session.port));
}

abbrev pub decreases-loop-alloc : goal.decreases-loop-alloc
decreases-loop-alloc g l = length (l.row.items ++ l.left.items)
