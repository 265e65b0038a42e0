use Rattle.std.proofs.Common.{IfOk, subst}
use Rattle.lethe_reasons.specs.Messages.{Shows}
use Rattle.lethe_reasons.proofs.folder.gate_missing.Goals as goal

pub returns-clause-name : goal.returns-clause-name
returns-clause-name c = subst (λ name. IfOk c.holds.result (Shows name)) c.spell_file_name.ensures c.holds.ensures.what
