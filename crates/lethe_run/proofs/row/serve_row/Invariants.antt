use Rattle.std.proofs.Common.{◌≡◌, ◌≤◌, ◌+◌, length}
use Rattle.std.specs.Prelude.{vec_len, vec_capacity}
use Rattle.lethe_core.specs.Running.{IsSound}
use Rattle.lethe_core.specs.View.{view_of}
use Rattle.lethe_run.specs.Holding.{held_in}
use Rattle.lethe_run.specs.Rows.{HasServed}
use Rattle.lethe_run.proofs.row.serve_row.Given as goal

-- the changes in front of those that are left are answered
abbrev pub invariant-rows : goal.invariant-rows
invariant-rows g l =
    let old = view_of l.fn.engine.core in
    let now = view_of l.engine.core in
    let was = l.fn.slots.held.items in
    let held = l.slots.held.items in
    let left = l.row.items in
    let changes = l.fn.queue.changes.items in
    record {
      sound : IsSound g.D.Disk.tells now;
      served : HasServed g.D.Disk.tells g.D.Disk.ports_fail l.caller changes left l.fn.lines.items l.lines.items old was now held;
      rounds : now.rounds + length left ≤ old.rounds + length changes;
      made : now.pins.made + length left ≤ old.pins.made + length changes;
      ten : length held ≡ 10;
      slotted : held_in held ≡ held_in was;
      room : vec_len l.lines + length left ≤ vec_len l.fn.lines + length changes;
      capacity : vec_capacity l.fn.lines ≤ vec_capacity l.lines;
    }

abbrev pub decreases-rows : goal.decreases-rows
decreases-rows g l = length l.row.items
