use Rattle.std.proofs.Common.{max, sym, ap, ◌∙◌}
use Rattle.lethe_recover.proofs.Journals.{last_is}
use Rattle.lethe_recover.proofs.journal.count_of.Goals as goal

pub returns-in-Some : goal.returns-in-Some
returns-in-Some c = c.max.ensures ∙ ap (max c.args.counted) (c.seq.ensures ∙ sym (last_is c.args.records.now c.in-Some.record.now (sym c.in-Some.ensures.value) 0))
