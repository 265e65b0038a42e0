use Rattle.lethe_core.proofs.Flying.{claimed_more}
use Rattle.lethe_core.proofs.flights.Flights.begin.Goals as goal

pub invariant_of-self-2 : goal.invariant_of-self-2
invariant_of-self-2 g c = claimed_more c.self.inside.flights.items c.push.new.self.items c.args.self.now _ c.self.view_is c.self.invariant c.in_ok-push.ensures.items c.requires.claim c.requires.later c.requires.apart

pub returns-clause-are : goal.returns-clause-are
returns-clause-are g c = (invariant_of-self-2 g c).are
