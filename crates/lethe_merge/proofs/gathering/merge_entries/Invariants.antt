use Rattle.std.proofs.Common.{length}
use Rattle.lethe_merge.proofs.Gathers.{AreAdded}
use Rattle.lethe_merge.proofs.gathering.merge_entries.Given as goal

abbrev pub invariant-loop-entry : goal.invariant-loop-entry
invariant-loop-entry l = AreAdded l.erases l.fn.entries.items l.entries.items l.by_key.entries

abbrev pub decreases-loop-entry : goal.decreases-loop-entry
decreases-loop-entry l = length l.entries.items
