use Rattle.std.proofs.Common.{[], ◌∷◌}
use Rattle.lethe_engine.specs.ChangeRows.{call_of}
use Rattle.lethe_store.proofs.telling.told_call.Given as goal

abbrev pub ghosts-named_call : goal.ghosts-named_call
ghosts-named_call a = record { named = call_of a.asked.now ∷ [] }
