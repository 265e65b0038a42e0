use Rattle.std.proofs.Common.{ℕ, ◌<◌, get_or}
use Rattle.lethe_base.specs.Shapes.{HasOtherNumber}
use Rattle.lethe_base.specs.declared.shape.FileFacts.{FileFacts}
use Rattle.lethe_test_orders.proofs.apart.have_other_numbers.Given as goal

abbrev pub invariant-loop-place : goal.invariant-loop-place
invariant-loop-place l = (i j : ℕ) (d : FileFacts) → i < j → j < l.place → HasOtherNumber (get_or l.files i d) (get_or l.files j d)
