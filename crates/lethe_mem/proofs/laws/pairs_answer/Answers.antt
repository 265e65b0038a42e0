use Rattle.lethe_mem.proofs.PairsLemmas.{pairs_answer}
use Rattle.lethe_mem.proofs.laws.pairs_answer.Goals as goal

pub returns : goal.returns
returns c = pairs_answer
