use Rattle.std.specs.Prelude.{take}
use Rattle.lethe_commit.specs.Gates.{IsGreatestOf}
use Rattle.lethe_commit.proofs.gates.choose.Given as goal

abbrev pub invariant-loop-name : goal.invariant-loop-name
invariant-loop-name l = IsGreatestOf (take l.name-index l.names) l.greatest
