use Rattle.std.proofs.Common.{◌≡◌, ◌++◌, map, take}
use Rattle.lethe_advance.specs.Settled.{names_in}
use Rattle.lethe_core.specs.Flights.{flying_of, loose_in}
use Rattle.lethe_core.proofs.flights.Flights.add_names.Given as goal

abbrev pub invariant-loop-flight : goal.invariant-loop-flight
invariant-loop-flight g l = l.names.items ≡ l.initial.names.items ++ names_in (loose_in (map flying_of (take l.flight-index l.flight-items)))
