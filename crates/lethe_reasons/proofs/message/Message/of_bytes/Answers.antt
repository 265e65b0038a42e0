use Rattle.std.proofs.Common.{◌++◌, subst, sym, ap, ◌∙◌}
use Rattle.lethe_reasons.specs.Messages.{IsLine, shown}
use Rattle.lethe_reasons.proofs.Lines.{line_of}
use Rattle.lethe_reasons.proofs.message.Message.of_bytes.Goals as goal

pub invariant_of-result : goal.invariant_of-result
invariant_of-result c = subst IsLine (sym (c.in_ok-push_shown.ensures ∙ ap (λ l. l ++ shown c.or_mark.result.now) c.new-bytes.ensures.items ∙ ap shown c.or_mark.ensures)) (line_of c.args.text.now)
