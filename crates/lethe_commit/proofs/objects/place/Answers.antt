use Rattle.lethe_commit.proofs.Placing.{after_create, after_sync}
use Rattle.lethe_commit.proofs.objects.place.Goals as goal

pub returns-in_err-create-clause-any_moment : goal.returns-in_err-create-clause-any_moment
returns-in_err-create-clause-any_moment g c = λ told.
    let s0 = g.D.Disk.seen c.args.disk.now in
    let s1 = g.D.Disk.seen c.create.new.self in
    (after_create c.args.name c.create.result s0 s1 (c.create.ensures.call told)).each

pub returns-clause-any_moment : goal.returns-clause-any_moment
returns-clause-any_moment g c = λ told.
    let s0 = g.D.Disk.seen c.args.disk.now in
    let s1 = g.D.Disk.seen c.create.new.self in
    let s2 = g.D.Disk.seen c.sync.new.self in
    let create = after_create c.args.name c.create.result s0 s1 (c.create.ensures.call told) in
    (after_sync c.args.name c.sync.result s0 s1 s2 create (c.sync.ensures.call told)).each
