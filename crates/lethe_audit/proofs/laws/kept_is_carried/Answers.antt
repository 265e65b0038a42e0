use Rattle.lethe_audit.proofs.Truth.{kept_carried}
use Rattle.lethe_audit.proofs.laws.kept_is_carried.Goals as goal

pub returns : goal.returns
returns c = λ config h d kept. kept_carried config h d kept
