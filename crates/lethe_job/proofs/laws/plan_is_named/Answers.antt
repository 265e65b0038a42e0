use Rattle.lethe_job.proofs.Named.{chosen_is_named, due_is_named}
use Rattle.lethe_job.proofs.laws.plan_is_named.Goals as goal

pub returns-clause-chosen : goal.returns-clause-chosen
returns-clause-chosen c = λ config some files low erases clock plan is. chosen_is_named config some files low erases clock plan is

pub returns-clause-due : goal.returns-clause-due
returns-clause-due c = λ config files low erases to plan is. due_is_named config files low erases to plan is
