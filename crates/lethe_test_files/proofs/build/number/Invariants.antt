use Rattle.std.proofs.Common.{◌≤◌, ◌-◌, All, length}
use Rattle.lethe_base.specs.Limits.{max_place}
use Rattle.lethe_test_files.proofs.build.number.Given as goal

abbrev pub invariant-loop-numbers : goal.invariant-loop-numbers
invariant-loop-numbers g l = record { low : All (λ number. number ≤ max_place) l.numbers.items; few : length l.numbers.items ≤ length l.draft.pages }

abbrev pub decreases-loop-numbers : goal.decreases-loop-numbers
decreases-loop-numbers g l = length l.draft.pages - length l.numbers.items
