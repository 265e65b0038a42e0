use Rattle.std.proofs.Common.{◌≡◌, drop}
use Rattle.std.specs.List.{find}
use Rattle.lethe_fade.specs.Candidates.{is_free, merges_from}
use Rattle.lethe_fade.specs.Choice.{candidates, level_merges}
use Rattle.lethe_fade.proofs.choice.first_saturated.Given as goal

-- the levels so far have no candidate that is free
abbrev pub invariant-loop-level : goal.invariant-loop-level
invariant-loop-level l = find (is_free l.claims) (candidates l.config l.shape) ≡ find (is_free l.claims) (merges_from (level_merges l.config) l.level (drop l.level l.shape.levels))
