use Rattle.std.proofs.Common.{◌≡◌, filter_map}
use Rattle.lethe_stored.specs.Stored.{erase_of}
use Rattle.lethe_flush.specs.ByPlace.{with_erases}
use Rattle.lethe_flush.proofs.Places.{turned}
use Rattle.lethe_flush.proofs.pending.add_recorded.Given as goal

abbrev pub invariant-loop-record : goal.invariant-loop-record
invariant-loop-record l = l.by_place.entries ≡ with_erases (filter_map erase_of (turned (λ y. y.now) l.yielded)) l.initial.by_place.entries
