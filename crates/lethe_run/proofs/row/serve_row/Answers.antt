use Rattle.std.proofs.Common.{rules, ◌≡◌, ◌∷◌, [], Some, true, cond, length, refl, sym, ap, subst, ◌∙◌, arith}
use mathlib.Core.Bool.{false≢true}
use Rattle.std.specs.VecDeque.{deque_len}
use Rattle.std.proofs.lemmas.Bool.{eqb-true}
use Rattle.lethe_core.specs.View.{Face, view_of}
use Rattle.lethe_script.specs.Slots.{held_behind}
use Rattle.lethe_script.specs.declared.order.Order.{Order}
use Rattle.lethe_run.specs.Holding.{held_in}
use Rattle.lethe_run.specs.Rows.{HasServed, IsStretch}
use Rattle.lethe_run.proofs.Rows.{held_same, no_more, served_act, served_made, served_none, served_still, served_then}
use Rattle.lethe_run.proofs.row.serve_row.Goals as goal

pub rows-init : goal.rows-init
rows-init g c =
    record {
      sound = c.requires.sound;
      served = served_none g.D.Disk.tells g.D.Disk.ports_fail c.args.queue.now.caller c.args.queue.now.changes.items c.args.lines.now.items (view_of c.args.engine.now.core) c.args.slots.now.held.items;
      rounds = omega arith;
      made = omega arith;
      ten = c.requires.ten;
      slotted = refl;
      room = omega arith;
      capacity = omega arith;
    }

pub returns-then-is_empty-clause-served : goal.returns-then-is_empty-clause-served
returns-then-is_empty-clause-served g c =
    let changes = c.args.queue.now.changes in
    let size = changes.ok.0 in
    let none : changes.items ≡ [] = no_more changes.items (omega (arith, size, eqb-true (deque_len changes) 0 (sym c.if-is_empty.ensures))) in (
      changes.items,
      (λ is. none),
      served_none g.D.Disk.tells g.D.Disk.ports_fail c.args.queue.now.caller changes.items c.args.lines.now.items (view_of c.args.engine.now.core) c.args.slots.now.held.items,
    )

pub returns-then-not-make_row-clause-served : goal.returns-then-not-make_row-clause-served
returns-then-not-make_row-clause-served g c =
    let Tells = g.D.Disk.tells in
    let Ports = g.D.Disk.ports_fail in
    let caller = c.args.queue.now.caller in
    let old = view_of c.args.engine.now.core in
    let mid = view_of c.rows.engine.core in
    let new = view_of c.make_row.new.engine.core in
    let held = c.rows.slots.held.items in
    let made = c.make_row.ensures.made in (
      made.0,
      (λ is. absurd (false≢true is)),
      served_then Tells Ports caller c.args.queue.now.changes.items c.rows.row.items made.0 c.args.lines.now.items c.rows.lines.items c.make_row.new.lines.items old mid new c.args.slots.now.held.items held held
          c.rows.invariant.served (served_made Tells Ports caller c.rows.row.items made.0 c.rows.lines.items c.make_row.new.lines.items mid new held made.2),
    )

pub returns-in_default-clause-served : goal.returns-in_default-clause-served
returns-in_default-clause-served g c =
    let Tells = g.D.Disk.tells in
    let Ports = g.D.Disk.ports_fail in
    let caller = c.args.queue.now.caller in
    let old = view_of c.args.engine.now.core in
    let mid = view_of c.rows.engine.core in
    let new = view_of c.make_row.new.engine.core in
    let held = c.rows.slots.held.items in
    let made = c.make_row.ensures.made in
    let row = c.make_row.new.row in
    let size = row.ok.0 in
    let none : row.items ≡ [] = no_more row.items (omega (arith, size, c.in_default.ensures.cases.0)) in (
      made.0,
      (λ is. made.1 (search rules) ∙ none),
      served_then Tells Ports caller c.args.queue.now.changes.items c.rows.row.items made.0 c.args.lines.now.items c.rows.lines.items c.make_row.new.lines.items old mid new c.args.slots.now.held.items held held
          c.rows.invariant.served (served_made Tells Ports caller c.rows.row.items made.0 c.rows.lines.items c.make_row.new.lines.items mid new held made.2),
    )

pub returns-then-not-serve_act-clause-served : goal.returns-then-not-serve_act-clause-served
returns-then-not-serve_act-clause-served g c =
    let Tells = g.D.Disk.tells in
    let Ports = g.D.Disk.ports_fail in
    let caller = c.args.queue.now.caller in
    let old = view_of c.args.engine.now.core in
    let mid = view_of c.rows.engine.core in
    let amid = view_of c.make_row.new.engine.core in
    let new = view_of c.serve_act.new.engine.core in
    let was = c.args.slots.now.held.items in
    let held = c.rows.slots.held.items in
    let left = c.serve_act.new.slots.held.items in
    let changes = c.args.queue.now.changes.items in
    let row = c.make_row.new.row.items in
    let made = c.make_row.ensures.made in
    let first = served_then Tells Ports caller changes c.rows.row.items made.0 c.args.lines.now.items c.rows.lines.items c.make_row.new.lines.items old mid amid was held held
    c.rows.invariant.served (served_made Tells Ports caller c.rows.row.items made.0 c.rows.lines.items c.make_row.new.lines.items mid amid held made.2) in
    let so_far : HasServed Tells Ports caller changes row c.args.lines.now.items c.make_row.new.lines.items old was amid held =
    subst (λ l. HasServed Tells Ports caller changes l c.args.lines.now.items c.make_row.new.lines.items old was amid held) (made.1 (search rules)) first in
    let act = c.serve_act.ensures.served in
    let order : Order = record { line = 0; caller = caller; act = c.act_of.result } in
    let none : IsStretch Tells Ports [] act.0 amid held new left =
    subst (λ b. IsStretch Tells Ports (cond b (order ∷ []) []) act.0 amid held new left) c.if-not-serve_act.true act.2 in (
      row,
      (λ is. absurd (false≢true is)),
      served_then Tells Ports caller changes row row c.args.lines.now.items c.make_row.new.lines.items c.serve_act.new.lines.items old amid new was held left
          so_far (served_still Tells Ports caller row c.make_row.new.lines.items c.serve_act.new.lines.items amid new held left act.0 act.1 none),
    )

pub rows-preserved : goal.rows-preserved
rows-preserved g c =
    let Tells = g.D.Disk.tells in
    let Ports = g.D.Disk.ports_fail in
    let caller = c.args.queue.now.caller in
    let old = view_of c.args.engine.now.core in
    let mid = view_of c.rows.engine.core in
    let amid = view_of c.make_row.new.engine.core in
    let new = view_of c.serve_act.new.engine.core in
    let was = c.args.slots.now.held.items in
    let held = c.rows.slots.held.items in
    let left = c.serve_act.new.slots.held.items in
    let changes = c.args.queue.now.changes.items in
    let row = c.make_row.new.row.items in
    let change = c.in-Some.change in
    let rest = c.pop_front.new.self.items in
    let made = c.make_row.ensures.made in
    let taken : row ≡ change ∷ rest = c.in-Some.ensures.items in
    let first = served_then Tells Ports caller changes c.rows.row.items made.0 c.args.lines.now.items c.rows.lines.items c.make_row.new.lines.items old mid amid was held held
    c.rows.invariant.served (served_made Tells Ports caller c.rows.row.items made.0 c.rows.lines.items c.make_row.new.lines.items mid amid held made.2) in
    let so_far : HasServed Tells Ports caller changes (change ∷ rest) c.args.lines.now.items c.make_row.new.lines.items old was amid held =
    subst (λ l. HasServed Tells Ports caller changes l c.args.lines.now.items c.make_row.new.lines.items old was amid held) (made.1 (search rules) ∙ taken) first in
    let act = c.serve_act.ensures.served in
    let ok : c.serve_act.result ≡ true = search rules in
    let order : Order = record { line = 0; caller = caller; act = c.act_of.result } in
    let one : IsStretch Tells Ports (order ∷ []) act.0 amid held new left =
    subst (λ b. IsStretch Tells Ports (cond b (order ∷ []) []) act.0 amid held new left) ok act.2 in
    let face = made.2.face in
    let same_rounds = ap (λ (f : Face). f.rounds) face in
    let same_made = ap (λ (f : Face). f.made) face in
    let fewer = c.make_row.ensures.fewer in
    let one_less = ap length taken in
    record {
      sound = c.serve_act.ensures.sound;
      served = served_then Tells Ports caller changes (change ∷ rest) rest c.args.lines.now.items c.make_row.new.lines.items c.serve_act.new.lines.items old amid new was held left
          so_far (served_act Tells Ports caller change rest c.act_of.result c.act_of.ensures c.make_row.new.lines.items c.serve_act.new.lines.items amid new held left act.0 act.1 one);
      rounds = let a = c.rows.invariant.rounds in let b = c.serve_act.ensures.rounds in omega (arith, a, b, same_rounds, fewer, one_less);
      made = let a = c.rows.invariant.made in let b = c.serve_act.ensures.made in omega (arith, a, b, same_made, fewer, one_less);
      ten = c.serve_act.ensures.ten;
      slotted = held_same change (held_in held) (held_in left) (subst (λ act. held_behind act (held_in held) ≡ Some (held_in left)) c.act_of.ensures (c.serve_act.ensures.slotted ok)) ∙ c.rows.invariant.slotted;
      room = let a = c.rows.invariant.room in let b = c.make_row.ensures.room in let d = c.serve_act.ensures.room in omega (arith, a, b, d, one_less);
      capacity = let a = c.rows.invariant.capacity in let b = c.make_row.ensures.capacity in let d = c.serve_act.ensures.capacity in omega (arith, a, b, d);
    }
