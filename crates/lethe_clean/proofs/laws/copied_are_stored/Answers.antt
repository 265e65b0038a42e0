use Rattle.lethe_clean.proofs.Copied.{all_stored}
use Rattle.lethe_clean.proofs.laws.copied_are_stored.Goals as goal

pub returns : goal.returns
returns c = λ s files loose coherent stored copied. all_stored s coherent files stored loose copied
