use Rattle.std.proofs.Common.{arith}
use Rattle.lethe_commit.proofs.Removals.{at_start, name_at, name_at_is, after_removal, one_more}
use Rattle.lethe_commit.proofs.clearing.remove_each.Goals as goal

pub loop-name-init : goal.loop-name-init
loop-name-init g c = (λ told. at_start c.args.names.now (g.D.Disk.seen c.args.disk.now) (c.requires told), omega arith)

pub returns-in_err-remove-clause-any_moment : goal.returns-in_err-remove-clause-any_moment
returns-in_err-remove-clause-any_moment g c = λ told.
    let i = c.loop-name.name-index in
    (after_removal c.args.names.now i (name_at c.args.names.now i) c.remove.result (g.D.Disk.seen c.args.disk.now) (g.D.Disk.seen c.loop-name.disk) (g.D.Disk.seen c.remove.new.self) c.loop-name-test.true (name_at_is c.args.names.now i c.loop-name-test.true) (c.loop-name.invariant.0 told) (c.remove.ensures.call told)).each

pub loop-name-preserved : goal.loop-name-preserved
loop-name-preserved g c =
    let i = c.loop-name.name-index in (
      λ told. one_more c.args.names.now i (name_at c.args.names.now i) c.remove.result (g.D.Disk.seen c.args.disk.now) (g.D.Disk.seen c.loop-name.disk) (g.D.Disk.seen c.remove.new.self) c.loop-name-test.true (name_at_is c.args.names.now i c.loop-name-test.true) (c.loop-name.invariant.0 told) (c.remove.ensures.call told) (c.in_ok-remove.ensures.done told) (c.in_ok-remove.ensures.call told).counted,
      omega (arith, c.loop-name.invariant.1, c.remove.ensures.cause.later),
    )

pub returns-clause-any_moment : goal.returns-clause-any_moment
returns-clause-any_moment g c = λ told. (c.loop-name.invariant.0 told).run.each
