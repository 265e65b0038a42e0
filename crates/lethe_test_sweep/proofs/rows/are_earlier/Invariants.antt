use Rattle.std.proofs.Common.{◌<◌, All, take}
use Rattle.lethe_test_sweep.proofs.rows.are_earlier.Given as goal

abbrev pub invariant-loop-line : goal.invariant-loop-line
invariant-loop-line l = All (λ line. line.max_seq < l.erase.seq) (take l.line-index l.lines)
