use Rattle.std.proofs.Common.{◌≡◌, ◌≤◌, ◌+◌, ◌++◌}
use Rattle.std.specs.Prelude.{vec_len, vec_capacity}
use Rattle.lethe_run.specs.Rows.{done_lines}
use Rattle.lethe_run.proofs.row.push_done.Given as goal

-- the lines so far
abbrev pub invariant-loop-n : goal.invariant-loop-n
invariant-loop-n l = record {
  lines : l.lines.items ≡ l.fn.lines.items ++ done_lines l.caller l.count l.n;
  len : vec_len l.lines ≡ vec_len l.fn.lines + l.n;
  capacity : vec_capacity l.fn.lines ≤ vec_capacity l.lines;
}
