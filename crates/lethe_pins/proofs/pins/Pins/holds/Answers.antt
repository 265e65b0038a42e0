use Rattle.std.proofs.Common.{◌∙◌, ap, sym, List}
use Rattle.slab.specs.Slab.{get}
use Rattle.lethe_pins.specs.declared.pin.Pin.{Pin}
use Rattle.lethe_pins.specs.declared.stop.Stop.TheVariants as stop
use Rattle.lethe_pins.specs.Held.{Held, is_named}
use Rattle.lethe_pins.specs.Linked.{stops_at}
use Rattle.lethe_pins.proofs.Walked.{any_found, names_rise, seen}
use Rattle.lethe_pins.proofs.pins.Pins.holds.Goals as goal

pub seek-from-requires : goal.seek-from-requires
seek-from-requires c = (c.self.invariant.cells, c.self.invariant.path, names_rise c.self.invariant.cells c.self.invariant.held.names)

pub returns : goal.returns
returns c =
    c.is_some.ensures
    ∙ any_found (get c.self.inside.nodes) c.self.inside.first c.self.invariant.cells (stops_at (stop.Name c.args.name)) c.seek-from.result.0 c.seek-from.result.1
    (c.seek-from.ensures c.self.invariant.cells c.self.invariant.path c.self.invariant.count)
    ∙ ap (λ (l : List Pin). is_named l c.args.name) (sym (seen c.self.inside.nodes c.self.inside.first c.self.inside.made c.self.invariant)) ∙ ap (λ (held : Held). is_named held.pins c.args.name) c.self.view_is
