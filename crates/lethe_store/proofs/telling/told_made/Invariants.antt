use Rattle.std.proofs.Common.{[], ◌∷◌}
use Rattle.lethe_store.specs.declared.entry.Mark.TheVariants.{Made}
use Rattle.lethe_store.proofs.telling.told_made.Given as goal

abbrev pub ghosts-named_made : goal.ghosts-named_made
ghosts-named_made a = record { named = Made a.number a.limit ∷ [] }
