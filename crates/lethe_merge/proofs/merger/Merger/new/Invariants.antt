use Rattle.std.proofs.Common.{◌≡◌, map}
use Rattle.lethe_merge.proofs.Begins.{unasked}
use Rattle.lethe_merge.proofs.merger.Merger.new.Given as goal

abbrev pub invariant-loop-cursor : goal.invariant-loop-cursor
invariant-loop-cursor g l = l.sources.items ≡ map unasked l.yielded
