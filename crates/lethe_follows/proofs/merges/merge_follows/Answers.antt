use Rattle.lethe_follows.proofs.MergeFiles.{merged_coherent}
use Rattle.lethe_follows.proofs.MergeRising.{merged_rises}
use Rattle.lethe_follows.proofs.Merging.{merged_for}
use Rattle.lethe_follows.proofs.merges.merge_follows.Goals as goal

pub returns-clause-coherent : goal.returns-clause-coherent
returns-clause-coherent c = λ company s coherent m begun applied alone upto t is. merged_coherent s coherent m applied alone upto t is

pub returns-clause-rising : goal.returns-clause-rising
returns-clause-rising c = λ company. merged_rises {company = company}

pub returns-clause-stands : goal.returns-clause-stands
returns-clause-stands c = λ company. merged_for {company = company}
