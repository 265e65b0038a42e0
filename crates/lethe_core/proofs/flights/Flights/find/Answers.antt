use Rattle.std.proofs.Common.{rules, tests}
use Rattle.std.proofs.lemmas.Iterator.{YieldsList-from_slice}
use Rattle.std.proofs.lemmas.Iterator.Search.{find_from_yields_List}
use Rattle.lethe_core.proofs.Flying.{found_is, has_number}
use Rattle.lethe_core.proofs.flights.Flights.find.Goals as goal

pub returns-clause-none : goal.returns-clause-none
returns-clause-none g c =
    let flights = c.self.inside.flights.items in
    let found = find_from_yields_List (has_number c.args.number) _ _ c.find.result c.find.ensures.ran (YieldsList-from_slice flights (cc)) (λ x b q k. search (rules, tests)) in
    (found_is c.args.number flights c.args.self.now c.find.result c.self.view_is found).0

pub returns-clause-some : goal.returns-clause-some
returns-clause-some g c =
    let flights = c.self.inside.flights.items in
    let found = find_from_yields_List (has_number c.args.number) _ _ c.find.result c.find.ensures.ran (YieldsList-from_slice flights (cc)) (λ x b q k. search (rules, tests)) in
    (found_is c.args.number flights c.args.self.now c.find.result c.self.view_is found).1
