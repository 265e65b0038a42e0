use Rattle.std.proofs.Common.{◌≡◌, true, false, rules, tests}
use Rattle.std.proofs.lemmas.Iterator.{IsFirst-from_position, YieldsList-from_slice}
use Rattle.lethe_core.proofs.Flying.{has_number, place_is}
use Rattle.lethe_core.proofs.flights.Flights.place_of.Goals as goal

pub returns : goal.returns
returns g c =
    let flights = c.self.inside.flights.items in
    let first =
    IsFirst-from_position _ _ c.position.result (λ flight. has_number c.args.number flight ≡ true) (λ flight. has_number c.args.number flight ≡ false) c.position.ensures.ran (YieldsList-from_slice flights (cc)) (λ x q k. search (rules, tests))
    (λ x q k. search (rules, tests)) in
    let is = place_is c.args.number flights c.args.self.now c.position.result c.self.view_is first in
    record { none = is.0; within = is.1; there = is.2 }
