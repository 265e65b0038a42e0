use Rattle.lethe_audit.proofs.Truth.{audited_true}
use Rattle.lethe_audit.proofs.laws.audited_is_true.Goals as goal

pub returns : goal.returns
returns c = λ config h d certificate audited carried. audited_true config h d certificate audited carried
