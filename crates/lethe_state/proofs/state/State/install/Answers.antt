use Rattle.std.proofs.Common.{rules, subst, sym}
use Rattle.lethe_follows.specs.Merged.{Beside, Last}
use Rattle.lethe_state.specs.Writable.{IsWritable}
use Rattle.lethe_state.proofs.Left.{installed_writable}
use Rattle.lethe_state.proofs.state.State.install.Goals as goal

pub returns-in-Last-clause-writable : goal.returns-in-Last-clause-writable
returns-in-Last-clause-writable c =
    subst IsWritable (sym (search rules)) (installed_writable Last c.args.step.manifest c.args.self.now c.requires.writable c.requires.spelled c.requires.segments)

pub returns-clause-writable : goal.returns-clause-writable
returns-clause-writable c =
    subst IsWritable (sym (search rules)) (installed_writable Beside c.args.step.manifest c.args.self.now c.requires.writable c.requires.spelled c.requires.segments)
