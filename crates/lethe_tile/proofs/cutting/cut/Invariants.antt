use Rattle.std.proofs.Common.{map}
use Rattle.lethe_tile.proofs.Parts.{IsCutting}
use Rattle.lethe_tile.proofs.cutting.cut.Given as goal

abbrev pub invariant-loop-entry : goal.invariant-loop-entry
invariant-loop-entry l = IsCutting l.most (map (λ part. part.items) l.parts.items) l.part.items l.entry-iterator.rest.items l.fn.entries.items
