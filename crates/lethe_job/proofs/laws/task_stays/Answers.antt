use Rattle.lethe_job.proofs.Staying.{stays_appended, stays_flushed, stays_frozen}
use Rattle.lethe_job.proofs.laws.task_stays.Goals as goal

pub returns-clause-appended : goal.returns-clause-appended
returns-clause-appended c = λ s task is next behind rise coherent. stays_appended s task is next behind rise coherent

pub returns-clause-frozen : goal.returns-clause-frozen
returns-clause-frozen c = λ s task is none segment number. stays_frozen s task is none segment number

pub returns-clause-flushed : goal.returns-clause-flushed
returns-clause-flushed c = λ s task is made number newest. stays_flushed s task is made number newest
