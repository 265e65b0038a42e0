use Rattle.std.proofs.Common.{◌≡◌, drop}
use Rattle.lethe_base.specs.Shapes.{earlier}
use Rattle.lethe_cover.specs.Merged.{time_under}
use Rattle.lethe_merge.proofs.joining.time_of.Given as goal

abbrev pub invariant-loop-erase : goal.invariant-loop-erase
invariant-loop-erase l = earlier l.time (time_under (drop l.erase-index l.erases) l.seq l.dkey) ≡ time_under l.erases l.seq l.dkey
