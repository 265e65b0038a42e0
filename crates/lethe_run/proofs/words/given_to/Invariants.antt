use Rattle.std.proofs.Common.{◌≡◌, map, length}
use Rattle.std.specs.String.{string_bytes}
use Rattle.lethe_run.specs.Asked.{two_by_two, given_to}
use Rattle.lethe_run.proofs.words.given_to.Given as goal

-- what is left has the value
abbrev pub invariant-loop-rest : goal.invariant-loop-rest
invariant-loop-rest l = given_to l.option (two_by_two (map string_bytes l.words)) ≡ given_to l.option (two_by_two (map string_bytes l.rest))

abbrev pub decreases-loop-rest : goal.decreases-loop-rest
decreases-loop-rest l = length l.rest
