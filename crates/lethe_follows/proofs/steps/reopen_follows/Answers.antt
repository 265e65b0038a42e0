use Rattle.lethe_follows.proofs.Stepping.{reopened_coherent, reopened_for}
use Rattle.lethe_follows.proofs.steps.reopen_follows.Goals as goal

pub returns-clause-coherent : goal.returns-clause-coherent
returns-clause-coherent c = reopened_coherent

pub returns-clause-stands : goal.returns-clause-stands
returns-clause-stands c = λ h s coherent stands older newer segment number. reopened_for s older newer segment number h coherent stands
