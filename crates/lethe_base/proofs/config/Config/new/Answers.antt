use Rattle.std.proofs.Common.{sym, refl}
use Rattle.lethe_base.proofs.Configurations.{none_broken}
use Rattle.lethe_base.proofs.config.Config.new.Goals as goal

pub invariant_of-result : goal.invariant_of-result
invariant_of-result c = none_broken c.args.fields (sym c.in-None.ensures)

pub returns-in-None-clause-exact : goal.returns-in-None-clause-exact
returns-in-None-clause-exact c = (λ _. none_broken c.args.fields (sym c.in-None.ensures), λ _. refl)
