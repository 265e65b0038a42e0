use Rattle.lethe_sweeps.proofs.SweepStaying.{stays_appended, stays_flushed, stays_frozen}
use Rattle.lethe_sweeps.proofs.laws.sweep_stays.Goals as goal

pub returns-clause-appended : goal.returns-clause-appended
returns-clause-appended c = stays_appended

pub returns-clause-frozen : goal.returns-clause-frozen
returns-clause-frozen c = stays_frozen

pub returns-clause-flushed : goal.returns-clause-flushed
returns-clause-flushed c = λ s w erase alone is made number newest. stays_flushed s w erase alone is made number newest
