use Rattle.std.proofs.Common.{sym, ◌∙◌}
use Rattle.lethe_merge.proofs.Times.{struck-some, struck-none}
use Rattle.lethe_merge.proofs.joining.strike.Goals as goal

pub returns-then-is_some : goal.returns-then-is_some
returns-then-is_some c =
    struck-some c.args.erases.now c.args.entry c.in-Put.dkey c.in-Put.value c.in-Put.is c.time_of-time.result c.first_time-entry.result c.time_of-time.ensures (sym c.is_some.ensures ∙ c.if-is_some.true) c.first_time-entry.ensures

pub returns-else-is_some : goal.returns-else-is_some
returns-else-is_some c =
    struck-none c.args.erases.now c.args.entry c.in-Put.dkey c.in-Put.value c.in-Put.is c.time_of-time.result c.time_of-time.ensures (sym c.is_some.ensures ∙ c.if-is_some.false)
