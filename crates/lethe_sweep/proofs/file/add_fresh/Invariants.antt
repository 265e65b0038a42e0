use Rattle.std.proofs.Common.{◌≡◌, ◌++◌, filter_map}
use Rattle.lethe_swept.specs.Left.{fresh_of}
use Rattle.lethe_sweep.proofs.file.add_fresh.Given as goal

abbrev pub invariant-loop-part : goal.invariant-loop-part
invariant-loop-part l = l.fresh.items ++ filter_map fresh_of l.part-iterator.rest.items ≡ l.fn.fresh.items ++ filter_map fresh_of l.fn.parts
