use Rattle.std.proofs.Common.{refl, sym, subst, arith}
use Rattle.lethe_core.specs.Flights.{AreFlights, flying_of}
use Rattle.lethe_core.proofs.Flying.{claimed_without, held_within, job_at, removed_at, without_none, written_is}
use Rattle.lethe_core.proofs.flights.Flights.end.Goals as goal

pub returns-in_err-place-clause-ended : goal.returns-in_err-place-clause-ended
returns-in_err-place-clause-ended g c = sym (without_none c.args.number c.args.self.now (c.in_err-place.ensures.none.0 refl))

pub remove-flight-requires : goal.remove-flight-requires
remove-flight-requires g c =
    let within = held_within c.self.inside.flights.items c.args.self.now c.in_ok-place.place c.self.view_is c.in_ok-place.ensures.within in
    omega (arith, within, c.self.inside.flights.ok.0)

pub returns-clause-ended : goal.returns-clause-ended
returns-clause-ended g c =
    removed_at c.args.number c.self.inside.flights.items c.remove-flight.new.self.items c.args.self.now c.in_ok-place.place c.remove-flight.result c.self.view_is (subst AreFlights c.self.view_is c.self.invariant.are) c.in_ok-place.ensures.within
    c.in_ok-place.ensures.there c.remove-flight.ensures.value c.remove-flight.ensures.items

pub invariant_of-self : goal.invariant_of-self
invariant_of-self g c =
    claimed_without c.args.number c.self.inside.flights.items c.remove-flight.new.self.items c.args.self.now c.in_ok-place.place c.self.invariant c.self.view_is c.remove-flight.ensures.items (returns-clause-ended g c)

pub returns-clause-are : goal.returns-clause-are
returns-clause-are g c = (invariant_of-self g c).are

pub returns-clause-some : goal.returns-clause-some
returns-clause-some g c =
    let job = job_at c.args.number c.self.inside.flights.items c.args.self.now c.in_ok-place.place c.remove-flight.result c.self.view_is c.in_ok-place.ensures.within c.in_ok-place.ensures.there c.remove-flight.ensures.value in
    sym (written_is c.args.number c.args.self.now (flying_of c.remove-flight.result) job.1)
