use Rattle.std.proofs.Common.{◌≡◌, ◌++◌}
use Rattle.lethe_tile.specs.Woven.{tombs_of, puts_of}
use Rattle.lethe_sweep.proofs.entry.part_by_body.Given as goal

abbrev pub invariant-loop-entry : goal.invariant-loop-entry
invariant-loop-entry l =
    (l.tombs.items ++ tombs_of l.entry-iterator.rest.items ≡ tombs_of l.fn.entries.items) × (l.puts.items ++ puts_of l.entry-iterator.rest.items ≡ puts_of l.fn.entries.items)
