use Rattle.lethe_store.proofs.telling.told_changes.Given as goal

abbrev pub ghosts-named_changes : goal.ghosts-named_changes
ghosts-named_changes a = record { named = a.row.now.items }
