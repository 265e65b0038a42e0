use Rattle.lethe_follows.proofs.Merging.{all_counted}
use Rattle.lethe_follows.proofs.merges.files_are_counted.Goals as goal

pub returns : goal.returns
returns c = all_counted
