use Rattle.std.proofs.Common.{◌≡◌, take}
use Rattle.lethe_fade.proofs.Ranking.{first_age}
use Rattle.lethe_fade.specs.Expired.{is_expired}
use Rattle.lethe_fade.proofs.Oldest.{is_kept_and_free}
use Rattle.lethe_fade.proofs.Expiring.{own_merge}
use Rattle.lethe_fade.proofs.expired.oldest_file.Given as goal

abbrev pub invariant-loop-file : goal.invariant-loop-file
invariant-loop-file l = l.oldest ≡ first_age (is_kept_and_free (is_expired l.config l.clock l.level) (own_merge l.level l.next) l.claims) (take l.file-index l.files)
