use Rattle.lethe_flush.proofs.Adding.{IsSoFar}
use Rattle.lethe_flush.proofs.making.make_files.Given as goal

abbrev pub invariant-loop-draft : goal.invariant-loop-draft
invariant-loop-draft l = IsSoFar l.fn.drafts.items l.yielded l.draft-iterator.rest.items l.level l.upto l.fn.written l.written l.first l.made
