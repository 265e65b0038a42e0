use Rattle.std.specs.Result.{result_err}
use Rattle.lethe_store.specs.Diary.{spent_by}
use Rattle.lethe_store.proofs.telling.told_answer.Given as goal

abbrev pub ghosts-named_answer : goal.ghosts-named_answer
ghosts-named_answer a = record { named = spent_by (result_err a.answer.now) }
