use Rattle.std.specs.Prelude.{◌≡◌, not, filter, take}
use Rattle.lethe_pins.specs.Held.{is_named}
use Rattle.lethe_pins.proofs.pins.Pins.retired_free.Given as goal

abbrev pub invariant-loop-name : goal.invariant-loop-name
invariant-loop-name l = l.free.items ≡ filter (λ name. not (is_named l.self.pins name)) (take l.name-index l.retired)
