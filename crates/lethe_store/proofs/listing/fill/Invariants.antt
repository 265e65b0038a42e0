use Rattle.std.proofs.Common.{◌≡◌, ◌≤◌, ◌++◌, length}
use Rattle.lethe_store.specs.Rows.{most_in_row}
use Rattle.lethe_store.proofs.listing.fill.Given as goal

-- changes went from the front of those that are left to the back of the row
abbrev pub invariant-loop-left : goal.invariant-loop-left
invariant-loop-left l = record {
  same : l.row.items ++ l.left.items ≡ l.fn.row.items ++ l.fn.left.items;
  short : length l.fn.row.items ≤ most_in_row → length l.row.items ≤ most_in_row;
}

abbrev pub decreases-loop-left : goal.decreases-loop-left
decreases-loop-left l = length l.left.items
