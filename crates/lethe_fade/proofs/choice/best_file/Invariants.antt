use Rattle.std.proofs.Common.{◌≡◌, take}
use Rattle.lethe_fade.proofs.Ranking.{first_rank}
use Rattle.lethe_fade.proofs.Chosen.{is_file_free}
use Rattle.lethe_fade.proofs.choice.best_file.Given as goal

abbrev pub invariant-loop-file : goal.invariant-loop-file
invariant-loop-file l = l.best ≡ first_rank l.order l.next (is_file_free l.level l.next l.claims) (take l.file-index l.files)
