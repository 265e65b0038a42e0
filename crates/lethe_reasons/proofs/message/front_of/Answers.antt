use Rattle.std.proofs.Common.{sym, arith}
use Rattle.std.proofs.lemmas.List.{take_all, length-take}
use Rattle.lethe_reasons.proofs.message.front_of.Goals as goal

pub slice_bounds-result-end : goal.slice_bounds-result-end
slice_bounds-result-end c = omega (arith, length-take 160 c.args.given.now)

pub returns-else-given-gt-CUT : goal.returns-else-given-gt-CUT
returns-else-given-gt-CUT c = sym (take_all 160 c.args.given.now (omega arith))
