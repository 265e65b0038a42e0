use Rattle.std.proofs.Common.{◌≡◌, drop}
use Rattle.std.specs.List.{find}
use Rattle.lethe_fade.specs.Candidates.{is_free}
use Rattle.lethe_fade.specs.Sweeps.{sweeps_from}
use Rattle.lethe_fade.proofs.sweeps.first_sweep_of.Given as goal

-- the levels so far have no sweep that is free
abbrev pub invariant-loop-level : goal.invariant-loop-level
invariant-loop-level l = find (is_free l.claims) (sweeps_from l.place 0 l.levels) ≡ find (is_free l.claims) (sweeps_from l.place l.level (drop l.level l.levels))
