use Rattle.std.proofs.Common.{[], ◌∷◌}
use Rattle.lethe_test_turn.specs.Sums.{addition}
use Rattle.lethe_test_turn.proofs.sum.told_entry.Given as goal

abbrev pub ghosts-named_entry : goal.ghosts-named_entry
ghosts-named_entry a = record { named = addition a.by a.amount ∷ [] }
