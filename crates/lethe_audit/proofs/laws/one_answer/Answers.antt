use Rattle.lethe_audit.proofs.OneAnswer.{one_answer}
use Rattle.lethe_audit.proofs.laws.one_answer.Goals as goal

pub returns : goal.returns
returns c = λ d certificate a b x y. one_answer d certificate a b x y
