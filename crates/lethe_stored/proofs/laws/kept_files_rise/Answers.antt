use Rattle.lethe_stored.proofs.Leveled.{kept_rise}
use Rattle.lethe_stored.proofs.laws.kept_files_rise.Goals as goal

pub returns : goal.returns
returns c = kept_rise
