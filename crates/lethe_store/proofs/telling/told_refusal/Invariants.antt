use Rattle.std.proofs.Common.{Some}
use Rattle.lethe_store.specs.Diary.{spent_by}
use Rattle.lethe_store.proofs.telling.told_refusal.Given as goal

abbrev pub ghosts-named_refusal : goal.ghosts-named_refusal
ghosts-named_refusal a = record { named = spent_by (Some a.why.now) }
