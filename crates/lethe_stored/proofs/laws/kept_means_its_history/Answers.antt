use Rattle.lethe_stored.proofs.Meanings.{kept_means}
use Rattle.lethe_stored.proofs.laws.kept_means_its_history.Goals as goal

pub returns : goal.returns
returns c = kept_means
