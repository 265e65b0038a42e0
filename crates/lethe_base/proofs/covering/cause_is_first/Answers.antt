use Rattle.lethe_base.proofs.CauseLaws.{cause_is_first, first_is_cause}
use Rattle.lethe_base.proofs.covering.cause_is_first.Goals as goal

pub returns : goal.returns
returns c = λ h place cause. (cause_is_first h place cause, first_is_cause h place cause)
