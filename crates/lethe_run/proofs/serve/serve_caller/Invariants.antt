use Rattle.std.proofs.Common.{◌≡◌, ◌≤◌, ◌+◌, ◌++◌, List, Some, length, map}
use Rattle.std.specs.Prelude.{vec_len, vec_capacity}
use Rattle.lethe_core.specs.Running.{IsSound}
use Rattle.lethe_core.specs.View.{view_of}
use Rattle.lethe_script.specs.Slots.{held_through}
use Rattle.lethe_script.specs.declared.order.Order.{Order}
use Rattle.lethe_run.specs.declared.reply.Line.{Line}
use Rattle.lethe_run.specs.Holding.{held_in}
use Rattle.lethe_run.specs.Rows.{IsStretch, orders_of, unlined}
use Rattle.lethe_run.proofs.serve.serve_caller.Given as goal

-- the orders so far are answered, but for the changes that wait, and there is room for the lines of the others
abbrev pub invariant-loop-order : goal.invariant-loop-order
invariant-loop-order g l =
    let old = view_of l.fn.engine.core in
    let now = view_of l.engine.core in
    let was = l.fn.slots.held.items in
    let held = l.slots.held.items in
    let waiting = l.queue.changes.items in
    record {
      sound : IsSound g.D.Disk.tells now;
      served : (front : List Order) × (more : List Line) × (map unlined l.yielded ≡ front ++ orders_of l.queue.caller waiting) × (l.lines.items ≡ l.fn.lines.items ++ more)
          × IsStretch g.D.Disk.tells g.D.Disk.ports_fail front more old was now held;
      rounds : now.rounds + length waiting ≤ old.rounds + length l.yielded;
      made : now.pins.made + length waiting ≤ old.pins.made + length l.yielded;
      ten : length held ≡ 10;
      slotted : held_through l.yielded (held_in was) ≡ Some (held_in held);
      room : vec_capacity l.fn.lines ≤ vec_capacity l.lines;
      len : vec_len l.lines + length waiting ≤ vec_len l.fn.lines + length l.yielded;
    }
