use Rattle.std.proofs.Common.{sym, arith}
use Rattle.std.proofs.lemmas.List.{take_all, length-take}
use Rattle.lethe_run.proofs.front.front_of.Goals as goal

pub slice_bounds-result-end : goal.slice_bounds-result-end
slice_bounds-result-end c = omega (arith, length-take 160 c.args.line.now)

pub returns-else-line-gt-SHOWN : goal.returns-else-line-gt-SHOWN
returns-else-line-gt-SHOWN c = sym (take_all 160 c.args.line.now (omega arith))
