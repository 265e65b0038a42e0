use Rattle.lethe_store.specs.Ticks.{ticked_by}
use Rattle.lethe_store.proofs.telling.told_ticked.Given as goal

abbrev pub ghosts-named_ticked : goal.ghosts-named_ticked
ghosts-named_ticked a = record { named = ticked_by a.begun a.answer.now }
