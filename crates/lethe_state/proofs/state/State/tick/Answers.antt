use Rattle.std.proofs.Common.{rules, subst, sym}
use Rattle.lethe_state.specs.Writable.{IsWritable}
use Rattle.lethe_state.proofs.TickStep.{moved_writable}
use Rattle.lethe_state.proofs.state.State.tick.Goals as goal

pub returns-clause-writable : goal.returns-clause-writable
returns-clause-writable c =
    subst IsWritable (sym (search rules)) (moved_writable c.args.step.manifest c.args.self.now c.requires.writable c.requires.spelled c.requires.segments c.requires.fits)
