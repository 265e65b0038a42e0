use Rattle.std.proofs.Common.{cond, sym, ap, ◌∙◌, rules, tests}
use Rattle.std.proofs.lemmas.Iterator.{YieldsList-from_slice}
use Rattle.std.proofs.lemmas.Iterator.Search.{all_from_yields_List}
use Rattle.lethe_follows.specs.Merged.{Beside, Last}
use Rattle.lethe_core.proofs.Flying.{company_held, has_number}
use Rattle.lethe_core.proofs.flights.Flights.company_for.Goals as goal

pub returns-then-all : goal.returns-then-all
returns-then-all g c =
    let flights = c.self.inside.flights.items in
    let tested = all_from_yields_List (has_number c.args.number) _ _ c.all.result c.all.ensures.ran (YieldsList-from_slice flights (cc)) (λ x b q k. search (rules, tests)) in
    sym (company_held c.args.number flights c.args.self.now c.all.result c.self.view_is tested ∙ ap (λ all. cond all Last Beside) c.if-all.true)

pub returns-else-all : goal.returns-else-all
returns-else-all g c =
    let flights = c.self.inside.flights.items in
    let tested = all_from_yields_List (has_number c.args.number) _ _ c.all.result c.all.ensures.ran (YieldsList-from_slice flights (cc)) (λ x b q k. search (rules, tests)) in
    sym (company_held c.args.number flights c.args.self.now c.all.result c.self.view_is tested ∙ ap (λ all. cond all Last Beside) c.if-all.false)
