use Rattle.std.proofs.Common.{◌≡◌, ◌++◌, take}
use Rattle.std.specs.List.{flat_map}
use Rattle.lethe_run.specs.Printed.{pair_text}
use Rattle.lethe_run.proofs.print.push_pairs.Given as goal

-- the pairs so far
abbrev pub invariant-loop-key : goal.invariant-loop-key
invariant-loop-key l = l.text.items ≡ l.fn.text.items ++ flat_map pair_text (take l.key-index l.pairs)
