use Rattle.std.proofs.Common.{◌≡◌, ◌+◌, length}
use Rattle.lethe_test_files.proofs.opening.add_pages.Given as goal

abbrev pub invariant-loop-line : goal.invariant-loop-line
invariant-loop-line g l = length l.pages.items ≡ length l.fn.pages.items + l.line-index
