use Rattle.std.proofs.Common.{IfOk, subst}
use Rattle.lethe_reasons.specs.Messages.{Shows}
use Rattle.lethe_reasons.proofs.opening.damaged.Goals as goal

pub returns : goal.returns
returns c = subst (λ name. IfOk c.and-5.result (Shows name)) c.spell_file_name.ensures (c.and-5.ensures.keeps c.spell_file_name.result (c.in_ok-and-4.ensures.keeps c.spell_file_name.result c.in_ok-show.ensures.shows))
