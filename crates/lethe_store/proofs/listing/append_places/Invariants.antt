use Rattle.std.proofs.Common.{◌≡◌, ◌≤◌, ◌+◌, ◌++◌}
use Rattle.std.specs.List.{range_with_len}
use Rattle.std.specs.Prelude.{vec_len, vec_capacity}
use Rattle.lethe_store.proofs.listing.append_places.Given as goal

-- the places so far
abbrev pub invariant-loop-n : goal.invariant-loop-n
invariant-loop-n l = record {
  items : l.places.items ≡ l.fn.places.items ++ range_with_len (l.count + 1) l.n;
  len : vec_len l.places ≡ vec_len l.fn.places + l.n;
  capacity : vec_capacity l.places ≡ vec_capacity l.fn.places;
}
