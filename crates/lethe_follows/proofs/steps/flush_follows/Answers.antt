use Rattle.lethe_follows.proofs.Stepping.{flushed_coherent, flushed_for}
use Rattle.lethe_follows.proofs.steps.flush_follows.Goals as goal

pub returns-clause-coherent : goal.returns-clause-coherent
returns-clause-coherent c = λ s coherent made number. flushed_coherent s made number coherent

pub returns-clause-stands : goal.returns-clause-stands
returns-clause-stands c = λ h s coherent stands made number. flushed_for s made number h coherent stands
