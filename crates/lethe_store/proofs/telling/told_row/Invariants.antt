use Rattle.lethe_store.specs.Rows.{entries_in_row}
use Rattle.lethe_store.proofs.telling.told_row.Given as goal

abbrev pub ghosts-named_row : goal.ghosts-named_row
ghosts-named_row a = record { named = entries_in_row a.caller a.row.now.items a.done a.refused.now }
