use Rattle.std.proofs.Common.{sym, arith}
use Rattle.std.proofs.lemmas.List.{take_all, length-take}
use Rattle.lethe_run.proofs.front.within_limit.Goals as goal

pub slice_bounds-result-end : goal.slice_bounds-result-end
slice_bounds-result-end c = omega (arith, length-take 16777216 c.args.bytes.now)

pub returns-else-bytes-gt-MAX_SCRIPT : goal.returns-else-bytes-gt-MAX_SCRIPT
returns-else-bytes-gt-MAX_SCRIPT c = sym (take_all 16777216 c.args.bytes.now (omega arith))
