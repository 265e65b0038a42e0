use Rattle.lethe_merge.proofs.Heads.{IsTaking}
use Rattle.lethe_merge.proofs.least.take_least.Given as goal

abbrev pub invariant-loop-place : goal.invariant-loop-place
invariant-loop-place g l = IsTaking l.erases l.fn.sources l.sources l.place l.left.key l.left
