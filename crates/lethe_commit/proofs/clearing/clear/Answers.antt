use Rattle.lethe_commit.proofs.Removals.{after_sync}
use Rattle.lethe_commit.proofs.clearing.clear.Goals as goal

pub returns-clause-any_moment : goal.returns-clause-any_moment
returns-clause-any_moment g c = λ told.
    after_sync c.args.names.now c.sync.result (g.D.Disk.seen c.args.disk.now) (g.D.Disk.seen c.remove_each.new.disk) (g.D.Disk.seen c.sync.new.self) (c.remove_each.ensures.any_moment told) (c.sync.ensures.call told)
