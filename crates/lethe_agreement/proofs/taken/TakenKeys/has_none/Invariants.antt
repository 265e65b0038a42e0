use Rattle.std.specs.List.{AllWithin}
use Rattle.lethe_agreement.specs.Soundness.{IsTaken}
use Rattle.lethe_agreement.proofs.taken.TakenKeys.has_none.Given as goal

abbrev pub invariant-loop-entry : goal.invariant-loop-entry
invariant-loop-entry l = AllWithin (λ entry. IsTaken l.self entry.key → ⊥) l.entries 0 l.entry-index
