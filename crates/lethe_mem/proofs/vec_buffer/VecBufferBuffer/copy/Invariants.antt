use Rattle.std.proofs.Common.{◌≡◌, take}
use Rattle.lethe_mem.proofs.vec_buffer.VecBufferBuffer.copy.Given as goal

abbrev pub invariant-loop-entry : goal.invariant-loop-entry
invariant-loop-entry l = l.sorted.items ≡ take l.entry-index l.entry-items
