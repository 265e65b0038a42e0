use Rattle.lethe_job.proofs.Named.{chosen_in_store, due_in_store}
use Rattle.lethe_job.proofs.laws.plan_is_in_the_store.Goals as goal

pub returns-clause-chosen : goal.returns-clause-chosen
returns-clause-chosen c = λ s coherent plan is. chosen_in_store s coherent plan is

pub returns-clause-due : goal.returns-clause-due
returns-clause-due c = λ s coherent to plan is. due_in_store s coherent plan to is
