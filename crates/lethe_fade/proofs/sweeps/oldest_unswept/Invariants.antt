use Rattle.std.proofs.Common.{◌≡◌, take}
use Rattle.lethe_fade.specs.Sweeps.{is_unswept, sweep_of}
use Rattle.lethe_fade.proofs.Ranking.{first_age}
use Rattle.lethe_fade.proofs.Oldest.{is_kept_and_free}
use Rattle.lethe_fade.proofs.sweeps.oldest_unswept.Given as goal

abbrev pub invariant-loop-file : goal.invariant-loop-file
invariant-loop-file l = l.oldest ≡ first_age (is_kept_and_free (is_unswept l.place) (sweep_of l.place l.level) l.claims) (take l.file-index l.files)
