use Rattle.std.proofs.Common.{◌≤◌, map}
use Rattle.lethe_commit.specs.Place.{name_of}
use Rattle.lethe_commit.proofs.Removals.{IsClearedTo}
use Rattle.lethe_commit.proofs.objects.remove_objects.Given as goal

abbrev pub invariant-loop-object : goal.invariant-loop-object
invariant-loop-object g l = (g.D.Disk.tells → IsClearedTo (map name_of l.objects) l.object-index (g.D.Disk.seen l.fn.disk) (g.D.Disk.seen l.disk)) × (g.D.Disk.faults l.fn.disk ≤ g.D.Disk.faults l.disk)
