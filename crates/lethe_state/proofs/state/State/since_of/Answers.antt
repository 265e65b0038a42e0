use Rattle.std.proofs.Common.{rules, subst, sym}
use Rattle.lethe_base.specs.Spelling.{IsTimeOrNone}
use Rattle.lethe_state.proofs.Entering.{time_fits}
use Rattle.lethe_state.proofs.state.State.since_of.Goals as goal

pub returns-clause-fits : goal.returns-clause-fits
returns-clause-fits c = subst IsTimeOrNone (sym (search rules)) (time_fits c.args.key.now c.args.self.now.active.entries c.requires.active)
