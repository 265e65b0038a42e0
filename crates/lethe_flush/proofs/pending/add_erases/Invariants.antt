use Rattle.std.proofs.Common.{◌≡◌}
use Rattle.lethe_flush.specs.ByPlace.{with_erases}
use Rattle.lethe_flush.proofs.Places.{turned}
use Rattle.lethe_flush.proofs.pending.add_erases.Given as goal

abbrev pub invariant-loop-erase : goal.invariant-loop-erase
invariant-loop-erase l = l.by_place.entries ≡ with_erases (turned (λ y. y.now) l.yielded) l.initial.by_place.entries
