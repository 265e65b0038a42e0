use Rattle.std.specs.List.{IsFirstBest}
use Rattle.lethe_merge.specs.Sources.{comes_before}
use Rattle.lethe_merge.proofs.least.first_least.Given as goal

abbrev pub invariant-loop-place : goal.invariant-loop-place
invariant-loop-place g l = IsFirstBest (λ source other. comes_before source.head other.head) l.sources l.place l.least
