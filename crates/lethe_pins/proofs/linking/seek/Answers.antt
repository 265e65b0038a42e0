use Rattle.std.proofs.Common.{◌∙◌, sym}
use Rattle.slab.specs.Slab.{get}
use Rattle.lethe_pins.specs.Held.{Ascend}
use Rattle.lethe_pins.specs.Linked.{stops_at}
use Rattle.lethe_pins.proofs.Walked.{has_pin, moves}
use Rattle.lethe_pins.proofs.linking.seek.Goals as goal

pub stops-requires : goal.stops-requires
stops-requires c =
    has_pin (get c.args.nodes.now) c.args.first c.requires.0 (stops_at c.args.stop) c.loop-place.behind c.loop-place.from (λ pin. Ascend pin.names) c.loop-place.place c.in-Some.node.now
    (c.loop-place.invariant c.requires.0 c.requires.1) c.requires.2 (sym c.in-Some.ensures)

pub loop-place-preserved : goal.loop-place-preserved
loop-place-preserved c = λ cells path.
    moves (get c.args.nodes.now) c.args.first cells (stops_at c.args.stop) c.loop-place.behind c.loop-place.from c.loop-place.place c.in-Some.node.now (c.loop-place.invariant cells path) (sym c.in-Some.ensures)
    (sym c.stops.ensures ∙ c.if-stops.false)
