use Rattle.std.proofs.Common.{◌+◌, ◌*◌, length}
use Rattle.lethe_test_turn.proofs.phase.+add_all+fn-add_all-join+arg2+fn-add_all-join+arg3.Given as goal

abbrev pub decreases-join+arg2 : goal.decreases-join+arg2
decreases-join+arg2 g l = 2 * length l.left.now + 1

abbrev pub decreases-join+arg3 : goal.decreases-join+arg3
decreases-join+arg3 g l = 2 * length l.right.now + 1

abbrev pub decreases-add_all : goal.decreases-add_all
decreases-add_all g l = 2 * length l.amounts.now
