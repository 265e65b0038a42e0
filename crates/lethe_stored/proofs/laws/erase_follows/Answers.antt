use Rattle.lethe_stored.proofs.Changes.{erase_stored, erase_for}
use Rattle.lethe_stored.proofs.laws.erase_follows.Goals as goal

pub returns : goal.returns
returns c = λ h s coherent stands few caller range some short. (erase_stored h s coherent stands few caller range some short, erase_for h s coherent stands few caller range)
