use Rattle.std.proofs.Common.{◌≡◌, ◌++◌, ◌≤◌, drop}
use Rattle.lethe_mem.specs.Order.{count_below}
use Rattle.lethe_read.proofs.Ranges.{entries_between}
use Rattle.lethe_read.proofs.part.copies_between.Given as goal

-- the entries so far and those from the place on are all
abbrev pub invariant-loop-place : goal.invariant-loop-place
invariant-loop-place g l =
    let entries = g.B.Buffer.entries l.buffer in
    record {
      so_far : l.entries.items ++ entries_between l.lo l.hi (drop l.place entries) ≡ entries_between l.lo l.hi entries;
      from : count_below l.lo entries ≤ l.place;
    }
