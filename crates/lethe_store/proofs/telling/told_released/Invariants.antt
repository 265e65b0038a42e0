use Rattle.std.proofs.Common.{[], ◌∷◌}
use Rattle.lethe_store.specs.declared.entry.Mark.TheVariants.{Released}
use Rattle.lethe_store.proofs.telling.told_released.Given as goal

abbrev pub ghosts-named_released : goal.ghosts-named_released
ghosts-named_released a = record { named = Released a.number ∷ [] }
