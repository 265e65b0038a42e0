use Rattle.lethe_stored.proofs.Freezing.{froze_coherent, froze_for}
use Rattle.lethe_stored.proofs.laws.freeze_follows.Goals as goal

pub returns-clause-coherent : goal.returns-clause-coherent
returns-clause-coherent c = froze_coherent

pub returns-clause-stands : goal.returns-clause-stands
returns-clause-stands c = λ h s coherent stands none segment number. froze_for s coherent segment number none h stands
