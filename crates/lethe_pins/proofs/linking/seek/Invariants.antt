use Rattle.std.proofs.Common.{List, ℕ, None}
use Rattle.slab.specs.Slab.{get}
use Rattle.lethe_pins.specs.declared.pin.Pin.{Pin}
use Rattle.lethe_pins.specs.Linked.{Passed, Path, stops_at}
use Rattle.lethe_pins.proofs.linking.seek.Given as goal

abbrev pub invariant-loop-place : goal.invariant-loop-place
invariant-loop-place l = (cells : List (ℕ × Pin)) → Path (get l.nodes) l.fn.first cells None → Passed (get l.nodes) l.fn.first cells (stops_at l.stop) l.behind l.from l.place
