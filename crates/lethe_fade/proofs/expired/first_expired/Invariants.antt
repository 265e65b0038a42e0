use Rattle.std.proofs.Common.{◌≡◌, drop}
use Rattle.std.specs.List.{find}
use Rattle.lethe_fade.specs.Candidates.{is_free}
use Rattle.lethe_fade.specs.Expired.{expired, expired_from}
use Rattle.lethe_fade.proofs.expired.first_expired.Given as goal

-- the levels so far have no candidate that is free
abbrev pub invariant-loop-level : goal.invariant-loop-level
invariant-loop-level l = find (is_free l.claims) (expired l.config l.clock l.shape) ≡ find (is_free l.claims) (expired_from l.config l.clock l.level (drop l.level l.shape.levels))
