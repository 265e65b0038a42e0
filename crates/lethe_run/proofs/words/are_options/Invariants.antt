use Rattle.std.proofs.Common.{◌≡◌, map, length}
use Rattle.std.specs.String.{string_bytes}
use Rattle.lethe_run.specs.Asked.{two_by_two, are_options}
use Rattle.lethe_run.proofs.words.are_options.Given as goal

-- it depends on what is left
abbrev pub invariant-loop-rest : goal.invariant-loop-rest
invariant-loop-rest l = are_options (two_by_two (map string_bytes l.words)) ≡ are_options (two_by_two (map string_bytes l.rest))

abbrev pub decreases-loop-rest : goal.decreases-loop-rest
decreases-loop-rest l = length l.rest
