use Rattle.std.proofs.Common.{sym, arith}
use Rattle.std.proofs.lemmas.List.{take_all, length-take}
use Rattle.lethe_script.proofs.reading.within_limit.Goals as goal

pub slice_bounds-result-end : goal.slice_bounds-result-end
slice_bounds-result-end c = omega (arith, length-take 16777216 c.args.bytes.now)

pub returns-else-bytes-gt-MAX_SCRIPT : goal.returns-else-bytes-gt-MAX_SCRIPT
returns-else-bytes-gt-MAX_SCRIPT c = record {
  bytes = sym (take_all 16777216 c.args.bytes.now (omega arith));
  short = omega arith;
}

pub returns-then-bytes-gt-MAX_SCRIPT-clause-short : goal.returns-then-bytes-gt-MAX_SCRIPT-clause-short
returns-then-bytes-gt-MAX_SCRIPT-clause-short c = omega (arith, length-take 16777216 c.args.bytes.now)
