use Rattle.lethe_follows.proofs.Behind.{later_appended, later_flushed, later_frozen, later_none, later_others}
use Rattle.lethe_follows.proofs.journal.later_stay_recorded.Goals as goal

pub returns-clause-none : goal.returns-clause-none
returns-clause-none c = later_none

pub returns-clause-appended : goal.returns-clause-appended
returns-clause-appended c = later_appended

pub returns-clause-frozen : goal.returns-clause-frozen
returns-clause-frozen c = later_frozen

pub returns-clause-flushed : goal.returns-clause-flushed
returns-clause-flushed c = later_flushed

pub returns-clause-others : goal.returns-clause-others
returns-clause-others c = later_others
