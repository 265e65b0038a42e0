use Rattle.lethe_follows.proofs.LettingGo.{kept_coherent, kept_for, pending_kept}
use Rattle.lethe_follows.proofs.leaving.erases_leave.Goals as goal

pub returns-clause-coherent : goal.returns-clause-coherent
returns-clause-coherent c = kept_coherent

pub returns-clause-pending : goal.returns-clause-pending
returns-clause-pending c = pending_kept

pub returns-clause-stands : goal.returns-clause-stands
returns-clause-stands c = λ h s stands. kept_for s h stands
