use Rattle.std.proofs.Common.{length}
use Rattle.lethe_commit.proofs.Writes.{after_write, after_sync}
use Rattle.lethe_chain.proofs.chain.write_and_sync.Goals as goal

pub returns-in_err-write_at-clause-any_moment : goal.returns-in_err-write_at-clause-any_moment
returns-in_err-write_at-clause-any_moment g c = λ told.
    let s0 = g.D.Disk.seen c.args.disk.now in
    let s1 = g.D.Disk.seen c.write_at.new.self in
    (after_write c.args.name c.args.at (length c.args.bytes.now) c.write_at.result s0 s1 (c.write_at.ensures.call told)).each

pub returns-clause-any_moment : goal.returns-clause-any_moment
returns-clause-any_moment g c = λ told.
    let s0 = g.D.Disk.seen c.args.disk.now in
    let s1 = g.D.Disk.seen c.write_at.new.self in
    let s2 = g.D.Disk.seen c.sync.new.self in
    let write = after_write c.args.name c.args.at (length c.args.bytes.now) c.write_at.result s0 s1 (c.write_at.ensures.call told) in
    (after_sync c.args.name c.args.at (length c.args.bytes.now) c.sync.result s0 s1 s2 write (c.sync.ensures.call told)).each
