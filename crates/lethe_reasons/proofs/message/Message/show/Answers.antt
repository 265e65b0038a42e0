use Rattle.std.proofs.Common.{◌≡◌, ◌++◌, subst, sym, ap, ◌∙◌}
use Rattle.lethe_reasons.specs.Messages.{IsLine, Shows, shown}
use Rattle.lethe_reasons.proofs.Lines.{line_and, shows_here, shows_more}
use Rattle.lethe_reasons.proofs.message.Message.show.Goals as goal

pub invariant_of-result : goal.invariant_of-result
invariant_of-result c = subst IsLine (sym c.in_ok-push_shown.ensures) (line_and c.self.inside.bytes.items _ c.self.invariant)

pub returns-clause-shows : goal.returns-clause-shows
returns-clause-shows c = shows_here c.self.inside.bytes.items c.args.given.now _ (c.in_ok-push_shown.ensures ∙ ap (λ l. c.self.inside.bytes.items ++ shown l) c.front_of.ensures)

pub returns-clause-keeps : goal.returns-clause-keeps
returns-clause-keeps c = λ other shows.
    let same : c.args.self ≡ c.self.inside.bytes.items = cc in
    shows_more other c.self.inside.bytes.items _ _ (subst (Shows other) same shows) c.in_ok-push_shown.ensures
