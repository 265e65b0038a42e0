use Rattle.lethe_audit.proofs.Spelled.{held_all, one_held}
use Rattle.lethe_audit.proofs.laws.held_are_all.Goals as goal

pub returns-clause-same : goal.returns-clause-same
returns-clause-same c = λ d a b x y. one_held d a b x y

pub returns-clause-entries : goal.returns-clause-entries
returns-clause-entries c = λ d held all entry. held_all d held all entry
