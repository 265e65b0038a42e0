use Rattle.lethe_sweeps.proofs.SweptFiles.{swept_coherent}
use Rattle.lethe_sweeps.proofs.SweptFor.{swept_for}
use Rattle.lethe_sweeps.proofs.SweptRising.{swept_rises}
use Rattle.lethe_sweeps.proofs.laws.sweep_follows.Goals as goal

pub returns-clause-coherent : goal.returns-clause-coherent
returns-clause-coherent c = λ company s coherent w erase alone begun t is. swept_coherent s coherent w erase alone begun t is

pub returns-clause-rising : goal.returns-clause-rising
returns-clause-rising c = λ company. swept_rises {company = company}

pub returns-clause-stands : goal.returns-clause-stands
returns-clause-stands c = λ company. swept_for {company = company}
