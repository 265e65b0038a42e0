use Rattle.lethe_base.proofs.LeftErases.{left_unspent, unspent_left}
use Rattle.lethe_base.proofs.covering.left_erases_are_unspent.Goals as goal

pub returns : goal.returns
returns c = λ l erase. (left_unspent l erase, unspent_left l erase)
