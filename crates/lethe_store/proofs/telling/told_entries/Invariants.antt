use Rattle.lethe_store.specs.Entries.{entries_of}
use Rattle.lethe_store.proofs.telling.told_entries.Given as goal

abbrev pub ghosts-named_entries : goal.ghosts-named_entries
ghosts-named_entries a = record { named = entries_of a.caller a.call.now.items a.did }
