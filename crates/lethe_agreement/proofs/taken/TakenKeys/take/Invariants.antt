use Rattle.std.proofs.Common.{◌≡◌, ◌++◌}
use Rattle.lethe_agreement.specs.Soundness.{IsTaken}
use Rattle.lethe_agreement.proofs.KeySets.{Has}
use Rattle.lethe_agreement.proofs.taken.TakenKeys.take.Given as goal

abbrev pub invariant-loop-key : goal.invariant-loop-key
invariant-loop-key l = record { has : Has l.self.keys (IsTaken l.initial.self) l.yielded; rest : l.yielded ++ l.key-iterator.rest.items ≡ l.fn.keys.items }
