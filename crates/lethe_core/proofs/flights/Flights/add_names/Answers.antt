use Rattle.lethe_core.proofs.Flying.{names_all, names_more}
use Rattle.lethe_core.proofs.flights.Flights.add_names.Goals as goal

pub loop-flight-preserved : goal.loop-flight-preserved
loop-flight-preserved g c =
    names_more c.deref-flight-items.result.now c.loop-flight.flight-index c.flight-item.result c.args.names.now.items c.loop-flight.names.items c.names.result.now c.extend_from_slice.new.self.items c.loop-flight-test.true c.flight-item.is
    c.loop-flight.invariant c.names.ensures c.in_ok-extend_from_slice.ensures.items

pub returns : goal.returns
returns g c =
    names_all c.self.inside.flights.items c.deref-flight-items.result.now c.args.self.now c.loop-flight.flight-index c.args.names.now.items c.loop-flight.names.items c.loop-flight-test.false c.deref-flight-items.ensures.value c.self.view_is
    c.loop-flight.invariant
