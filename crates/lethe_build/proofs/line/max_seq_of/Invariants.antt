use Rattle.std.proofs.Common.{◌≡◌, max, fold, take}
use Rattle.lethe_build.proofs.line.max_seq_of.Given as goal

abbrev pub invariant-loop-entry : goal.invariant-loop-entry
invariant-loop-entry l = l.most ≡ fold (λ most entry. max most entry.seq) 0 (take l.entry-index l.entries)
