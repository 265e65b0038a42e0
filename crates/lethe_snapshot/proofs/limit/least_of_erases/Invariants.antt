use Rattle.std.proofs.Common.{◌≡◌, Any, take}
use Rattle.lethe_snapshot.specs.Times.{IsLeast}
use Rattle.lethe_snapshot.proofs.limit.least_of_erases.Given as goal

abbrev pub invariant-loop-erase : goal.invariant-loop-erase
invariant-loop-erase l = IsLeast l.time (λ time. Any (λ erase. erase.time ≡ time) (take l.erase-index l.erases)) l.least
