-- What is asked of a seat's ceilings is so of none, and of those of two seats.
use Rattle.std.proofs.Common.{◌+◌, List, [], ◌++◌, refl, ◌∙◌}
use Rattle.lethe_turn.proofs.Sums.{total_append}
use Rattle.lethe_test_turn.specs.declared.sum.Mark.{Mark}
use Rattle.lethe_test_turn.specs.Sums.{is_zero, NoneIsZero}

pub none_is_zero_none : NoneIsZero []
none_is_zero_none = refl

pub none_is_zero_both : (a b : List Mark) → NoneIsZero a → NoneIsZero b → NoneIsZero (a ++ b)
none_is_zero_both a b h k = total_append is_zero a b ∙ (λ i. h i + k i)
