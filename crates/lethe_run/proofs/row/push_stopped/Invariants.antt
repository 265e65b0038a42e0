use Rattle.std.proofs.Common.{◌≡◌, ◌≤◌, ◌+◌, ◌++◌}
use Rattle.std.specs.Prelude.{vec_len, vec_capacity}
use Rattle.lethe_run.specs.Rows.{stopped_lines}
use Rattle.lethe_run.proofs.row.push_stopped.Given as goal

-- the lines so far
abbrev pub invariant-loop : goal.invariant-loop
invariant-loop l = record {
  lines : l.lines.items ≡ l.fn.lines.items ++ stopped_lines l.caller l.at l.counter;
  len : vec_len l.lines ≡ vec_len l.fn.lines + l.counter;
  capacity : vec_capacity l.fn.lines ≤ vec_capacity l.lines;
}
