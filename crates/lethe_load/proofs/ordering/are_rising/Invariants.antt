use Rattle.std.proofs.Common.{◌+◌, ◌<◌, ℕ, get_or}
use Rattle.lethe_manifest.specs.declared.manifest.Cited.{Cited}
use Rattle.lethe_load.specs.Progress.{MayStand}
use Rattle.lethe_load.proofs.ordering.are_rising.Given as goal

abbrev pub invariant-loop-place : goal.invariant-loop-place
invariant-loop-place g l = (k : ℕ) (d : Cited) (e : _) → k + 1 < l.place → MayStand (get_or l.cited k d).level (get_or l.cited (k + 1) d).level (get_or l.files k e).header (get_or l.files (k + 1) e).header
