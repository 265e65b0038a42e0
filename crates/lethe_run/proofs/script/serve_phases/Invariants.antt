use Rattle.std.proofs.Common.{◌≡◌, ◌≤◌, ◌+◌, ℕ, List, Some, All, length}
use Rattle.std.specs.List.{flat_map, sum_by}
use Rattle.std.specs.Io.KnownBytes.{Appends}
use Rattle.lethe_core.specs.Running.{IsSound}
use Rattle.lethe_core.specs.View.{view_of}
use Rattle.lethe_script.specs.Slots.{held_through, none_held, orders_by}
use Rattle.lethe_run.specs.declared.reply.Line.{Line}
use Rattle.lethe_run.specs.Refusals.{IsFirstOr, all_of}
use Rattle.lethe_run.specs.Holding.{AreShown, AreTen, held_by, held_for, slots_for}
use Rattle.lethe_run.specs.Transcript.{text_of}
use Rattle.lethe_run.proofs.Endings.{Before}
use Rattle.lethe_run.proofs.script.serve_phases.Given as goal

-- the phases so far were carried out, and their lines written
abbrev pub invariant-loop-orders : goal.invariant-loop-orders
invariant-loop-orders g l =
    let old = view_of l.fn.engine.core in
    let now = view_of l.engine.core in
    let held = held_by l.slots.of.items in
    record {
      sound : IsSound g.D.Disk.tells now;
      sink : g.K.Sink.faults l.fn.sink ≤ g.K.Sink.faults l.sink;
      faults : old.faults ≤ now.faults;
      rounds : now.rounds ≤ old.rounds + sum_by length l.yielded;
      made : now.pins.made ≤ old.pins.made + sum_by length l.yielded;
      printed : l.printed ≤ sum_by length l.yielded;
      tens : AreTen held;
      slotted : (caller : ℕ) → held_through (orders_by caller (flat_map (λ orders. orders) l.yielded)) none_held ≡ Some (held_for caller held);
      lines : (lines : List (List Line)) × Appends (g.K.Sink.taken l.fn.sink) (g.K.Sink.taken l.sink) (text_of lines) × IsFirstOr (all_of lines) l.refused × (length (all_of lines) ≡ l.printed)
          × Before g.D.Disk.tells g.D.Disk.ports_fail old now (λ caller. slots_for caller held) (λ h. All (AreShown h) held) l.yielded lines;
    }
