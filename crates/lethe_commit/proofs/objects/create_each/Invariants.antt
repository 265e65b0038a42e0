use Rattle.std.proofs.Common.{◌≤◌}
use Rattle.lethe_commit.proofs.Creations.{IsCreatedTo}
use Rattle.lethe_commit.proofs.objects.create_each.Given as goal

abbrev pub invariant-loop-created : goal.invariant-loop-created
invariant-loop-created g l = (g.D.Disk.tells → IsCreatedTo l.objects l.created (g.D.Disk.seen l.fn.disk) (g.D.Disk.seen l.disk)) × (g.D.Disk.faults l.fn.disk ≤ g.D.Disk.faults l.disk)
