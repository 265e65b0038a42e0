use Rattle.lethe_stored.proofs.Steps as steps
use Rattle.lethe_stored.proofs.laws.switch_keeps.Goals as goal

pub returns-clause-later : goal.returns-clause-later
returns-clause-later c = steps.switch_keeps

pub returns-clause-first : goal.returns-clause-first
returns-clause-first c = steps.first_switch_keeps
