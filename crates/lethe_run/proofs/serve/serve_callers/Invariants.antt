use Rattle.std.proofs.Common.{◌≡◌, ◌≤◌, ◌<◌, ◌+◌, true, List, Some, length, map}
use Rattle.std.specs.Prelude.{ℕ, sum_by, vec_len, vec_capacity}
use Rattle.lethe_core.specs.Running.{IsSound}
use Rattle.lethe_core.specs.View.{view_of}
use Rattle.lethe_script.specs.Slots.{held_through, orders_by}
use Rattle.lethe_script.specs.declared.order.Order.{Order}
use Rattle.lethe_run.specs.Callers.{IsPhaseOfAll}
use Rattle.lethe_run.specs.Holding.{AreTen, held_by, held_for}
use Rattle.lethe_run.proofs.Callers.{FrontsFrom, all_in}
use Rattle.lethe_run.proofs.serve.serve_callers.Given as goal

-- the first callers have answered, each its first orders; the others' slots are as they were, and there is room for their lines
abbrev pub invariant-loop-orders : goal.invariant-loop-orders
invariant-loop-orders g l =
    let old = view_of l.fn.engine.core in
    let now = view_of l.engine.core in
    let was = held_by l.fn.slots.of.items in
    let held = held_by l.slots.of.items in
    let before = sum_by (λ list. length list.items) l.yielded in
    record {
      sound : IsSound g.D.Disk.tells now;
      served : (parts : List (List Order)) × FrontsFrom 0 l.fn.orders.items parts × (length parts ≡ l.index) × (l.whole ≡ true → parts ≡ map (λ list. list.items) l.yielded)
          × IsPhaseOfAll g.D.Disk.tells g.D.Disk.ports_fail (all_in parts) l.lines.items old was now held;
      index : l.index ≡ length l.yielded;
      rounds : now.rounds ≤ old.rounds + before;
      made : now.pins.made ≤ old.pins.made + before;
      tens : AreTen held;
      -- of those that have answered which slots are held is as it has to be, where there was memory
      slotted : l.whole ≡ true → (caller : ℕ) → caller ≤ l.index → held_through (orders_by caller l.fn.orders.items) (held_for caller was) ≡ Some (held_for caller held);
      others : (caller : ℕ) → l.index < caller → held_for caller held ≡ held_for caller was;
      room : length l.fn.orders.items ≤ vec_capacity l.lines;
      len : vec_len l.lines ≤ before;
    }
