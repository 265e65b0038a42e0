use Rattle.std.proofs.Common.{[], ◌∷◌}
use Rattle.lethe_test_turn.specs.Sums.{ceiling_mark}
use Rattle.lethe_test_turn.proofs.sum.told_mark.Given as goal

abbrev pub ghosts-named_mark : goal.ghosts-named_mark
ghosts-named_mark a = record { named = ceiling_mark a.ceiling ∷ [] }
