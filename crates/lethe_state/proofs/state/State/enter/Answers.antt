use Rattle.std.proofs.Common.{rules}
use Rattle.lethe_state.proofs.Entering.{entered_writable}
use Rattle.lethe_state.proofs.state.State.enter.Goals as goal

pub returns-clause-writable : goal.returns-clause-writable
returns-clause-writable c = entered_writable c.args.next c.args.end c.args.self.now _ c.requires.writable c.requires.fits c.requires.spelled c.requires.erases (search rules)
