use Rattle.std.proofs.Common.{◌≡◌, ◌∙◌, ap, sym, All, Some, List, subst}
use Rattle.std.specs.List.{slice_get}
use Rattle.slab.specs.Slab.{get}
use Rattle.lethe_pins.specs.declared.pin.Pin.{Pin}
use Rattle.lethe_pins.specs.Held.{Held, IsFirst, first_limit_of}
use Rattle.lethe_pins.specs.Linked.{pins_from}
use Rattle.lethe_pins.proofs.Placed.{first_is_least}
use Rattle.lethe_pins.proofs.Walked.{first_limit_is, first_pin, held_seen, seen}
use Rattle.lethe_pins.proofs.pins.Pins.first_limit.Goals as goal
use Rattle.lethe_pins.proofs.pins.Pins.first_limit.Goals.{In-Some}

stands_first : (c : In-Some) → Some c.in-Some.node.now.pin ≡ slice_get (pins_from c.self.inside.nodes c.self.inside.first) 0
stands_first c =
    first_pin (get c.self.inside.nodes) c.self.inside.first c.self.invariant.cells c.in-Some.node.now c.self.invariant.path c.in-Some.ensures
    ∙ ap (λ (l : List Pin). slice_get l 0) (sym (seen c.self.inside.nodes c.self.inside.first c.self.inside.made c.self.invariant))

pub returns-in-Some-clause-first : goal.returns-in-Some-clause-first
returns-in-Some-clause-first c =
    first_limit_is (pins_from c.self.inside.nodes c.self.inside.first) c.in-Some.node.now.pin (stands_first c) ∙ ap (λ (held : Held). first_limit_of held.pins) c.self.view_is

pub returns-in-Some-clause-least : goal.returns-in-Some-clause-least
returns-in-Some-clause-least c =
    let pin = c.in-Some.node.now.pin in
    subst (λ (held : Held). All (IsFirst pin.number pin.limit) held.pins) c.self.view_is
    (first_is_least (pins_from c.self.inside.nodes c.self.inside.first) pin (held_seen c.self.inside.nodes c.self.inside.first c.self.inside.made c.self.invariant).ordered (stands_first c))
