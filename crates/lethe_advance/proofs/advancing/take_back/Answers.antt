use Rattle.std.proofs.Common.{map}
use Rattle.lethe_commit.specs.Place.{name_of}
use Rattle.lethe_commit.proofs.Removals.{after_sync}
use Rattle.lethe_advance.proofs.advancing.take_back.Goals as goal

pub returns-clause-any_moment : goal.returns-clause-any_moment
returns-clause-any_moment g c = λ told.
    after_sync (map name_of c.args.objects.now) c.sync.result (g.D.Disk.seen c.args.disk.now) (g.D.Disk.seen c.remove_objects.new.disk) (g.D.Disk.seen c.sync.new.self) (c.remove_objects.ensures.any_moment told) (c.sync.ensures.call told)
