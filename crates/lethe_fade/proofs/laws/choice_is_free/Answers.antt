use Rattle.lethe_fade.proofs.ClaimLaws.{choice_is_free}
use Rattle.lethe_fade.proofs.laws.choice_is_free.Goals as goal

pub returns : goal.returns
returns c = choice_is_free
