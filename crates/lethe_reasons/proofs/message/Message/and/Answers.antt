use Rattle.std.proofs.Common.{◌≡◌, subst, sym}
use Rattle.lethe_reasons.specs.Messages.{IsLine, Shows}
use Rattle.lethe_reasons.proofs.Lines.{line_and, shows_more}
use Rattle.lethe_reasons.proofs.message.Message.and.Goals as goal

pub invariant_of-result : goal.invariant_of-result
invariant_of-result c = subst IsLine (sym c.in_ok-push_shown.ensures) (line_and c.self.inside.bytes.items _ c.self.invariant)

pub returns-clause-keeps : goal.returns-clause-keeps
returns-clause-keeps c = λ given shows.
    let same : c.args.self ≡ c.self.inside.bytes.items = cc in
    shows_more given c.self.inside.bytes.items _ _ (subst (Shows given) same shows) c.in_ok-push_shown.ensures
