use Rattle.std.proofs.Common.{map, drop}
use Rattle.lethe_read.proofs.Following.{AreAdded}
use Rattle.lethe_read.proofs.scanning.push_files.Given as goal

-- cursors over the files from the place on were added
abbrev pub invariant-loop-place : goal.invariant-loop-place
invariant-loop-place g l = AreAdded g.D.Disk l.lo l.hi (map (λ shared. shared.file.value) (drop l.place l.files)) l.fn.parts.items l.parts.items l.run
