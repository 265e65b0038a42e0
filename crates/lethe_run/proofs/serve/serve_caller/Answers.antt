use Rattle.std.proofs.Common.{rules, ◌≡◌, ◌∷◌, ◌++◌, [], length, refl, sym, ap, subst, ◌∙◌, arith, append_assoc, append-nil}
use mathlib.Core.Bool.{false≢true}
use Rattle.lethe_core.specs.View.{view_of}
use Rattle.lethe_script.specs.Slots.{held_through}
use Rattle.lethe_run.specs.Holding.{held_in}
use Rattle.lethe_run.specs.Rows.{orders_of, unlined}
use Rattle.std.specs.Prelude.{IsSome, map, vec_len}
use Rattle.std.proofs.lemmas.Bool.{eqb-true}
use Rattle.std.proofs.lemmas.List.{length-append, length_push, map-id, nil_from_length}
use Rattle.std.proofs.lemmas.Iterator.Consumers.{YieldsList-end}
use Rattle.std.proofs.lemmas.Iterator.Adapters.{YieldsList-from_vec}
use Rattle.lethe_run.proofs.Rows.{orders_append, phase_parts, stretch_none, stretch_then, waits_all, waits_more, waits_row}
use Rattle.lethe_run.proofs.Runs.{taken_next}
use Rattle.lethe_run.proofs.Slotted.{order_finds, order_holds}
use Rattle.lethe_run.proofs.serve.serve_caller.Goals as goal

pub loop-order-init : goal.loop-order-init
loop-order-init g c =
    let view = view_of c.args.engine.now.core in
    let held = c.args.slots.now.held.items in
    let none : c.new.result.items ≡ [] = c.new.ensures.items in
    let few = ap length none in
    record {
      sound = c.requires.sound;
      served = ([], [], sym (ap (orders_of 0) none), sym (append-nil c.args.lines.now.items), stretch_none g.D.Disk.tells g.D.Disk.ports_fail view held);
      rounds = omega (arith, few);
      made = omega (arith, few);
      ten = c.requires.ten;
      slotted = refl;
      room = omega arith;
      len = omega (arith, few);
    }

pub loop-order-preserved : goal.loop-order-preserved
loop-order-preserved g c =
    let old = view_of c.args.engine.now.core in
    let mid = view_of c.loop-order.engine.core in
    let new = view_of c.serve_order.new.engine.core in
    let was = c.args.slots.now.held.items in
    let amid = c.loop-order.slots.held.items in
    let held = c.serve_order.new.slots.held.items in
    let Tells = g.D.Disk.tells in
    let Ports = g.D.Disk.ports_fail in
    let order = c.in-Some.order in
    let so_far = c.loop-order.invariant.served in
    let step = c.serve_order.ensures.served in
    let more = length_push c.loop-order.yielded order in
    record {
      sound = c.serve_order.ensures.sound;
      served = (
        so_far.0 ++ step.0,
        so_far.1 ++ step.2,
        waits_more c.loop-order.yielded so_far.0 step.0 step.1 (orders_of c.loop-order.queue.caller c.loop-order.queue.changes.items) order so_far.2 step.3 ∙ ap (λ l. (so_far.0 ++ step.0) ++ l) (step.4 (search rules)),
        step.5 ∙ ap (λ l. l ++ step.2) so_far.3 ∙ append_assoc c.args.lines.now.items so_far.1 step.2,
        stretch_then Tells Ports so_far.0 step.0 so_far.1 step.2 old mid new was amid held so_far.4 step.6,
      );
      rounds = let a = c.loop-order.invariant.rounds in let b = c.serve_order.ensures.rounds in omega (arith, a, b, more);
      made = let a = c.loop-order.invariant.made in let b = c.serve_order.ensures.made in omega (arith, a, b, more);
      ten = c.serve_order.ensures.ten;
      slotted = order_holds c.loop-order.yielded (held_in was) (held_in amid) c.loop-order.invariant.slotted order (held_in held) (c.serve_order.ensures.slotted (search rules));
      room = let a = c.loop-order.invariant.room in let b = c.serve_order.ensures.capacity in omega (arith, a, b);
      len = let a = c.loop-order.invariant.len in let b = c.serve_order.ensures.room in omega (arith, a, b, more);
    }

pub serve_order-requires-clause-slotted : goal.serve_order-requires-clause-slotted
serve_order-requires-clause-slotted g c κs within =
    let order = c.in-Some.order in
    let rest = c.next.new.self.rest.items in
    let whole : c.args.orders.items ≡ c.loop-order.yielded ++ order ∷ rest =
    taken_next c.args.orders.items c.into_iter-order-iterator.result c.loop-order.yielded c.loop-order.order-iterator order rest c.into_iter-order-iterator.ensures.into_iter_gives.0 c.loop-order.yielded_by c.in-Some.ensures.steps.0 in
    let held = held_in c.args.slots.now.held.items in
    order_finds c.loop-order.yielded held (held_in c.loop-order.slots.held.items) c.loop-order.invariant.slotted order rest (subst (λ orders. IsSome (held_through orders held)) whole c.requires.slotted)

pub serve_row-requires-clause-rounds : goal.serve_row-requires-clause-rounds
serve_row-requires-clause-rounds g c κs within =
    let gives = c.into_iter-order-iterator.ensures.into_iter_gives in
    let ended = YieldsList-end (YieldsList-from_vec c.args.orders.items gives.0 (gives.1 ∙ search rules)) c.loop-order.yielded c.loop-order.order-iterator c.loop-order.yielded_by c.next.result c.next.new.self c.in-None.is c.next.ensures.steps in
    let all : c.args.orders.items ≡ c.loop-order.yielded = sym ended.0 ∙ map-id c.loop-order.yielded in
    let so_far = c.loop-order.invariant.rounds in
    let most = c.requires.rounds in
    omega (arith, ap length all, so_far, most)

pub returns-then-is_empty-clause-served : goal.returns-then-is_empty-clause-served
returns-then-is_empty-clause-served g c =
    let view = view_of c.args.engine.now.core in
    let count : length c.args.orders.items ≡ 0 = omega (arith, eqb-true (vec_len c.args.orders) 0 (sym c.if-is_empty.ensures), c.args.orders.ok.0) in
    ([], [], [], nil_from_length c.args.orders.items count, (λ is. refl), sym (append-nil c.args.lines.now.items), stretch_none g.D.Disk.tells g.D.Disk.ports_fail view c.args.slots.now.held.items)

pub returns-then-not-serve_order-clause-served : goal.returns-then-not-serve_order-clause-served
returns-then-not-serve_order-clause-served g c =
    let old = view_of c.args.engine.now.core in
    let mid = view_of c.loop-order.engine.core in
    let new = view_of c.serve_order.new.engine.core in
    let was = c.args.slots.now.held.items in
    let amid = c.loop-order.slots.held.items in
    let held = c.serve_order.new.slots.held.items in
    let Tells = g.D.Disk.tells in
    let Ports = g.D.Disk.ports_fail in
    let order = c.in-Some.order in
    let rest = c.next.new.self.rest.items in
    let whole : c.args.orders.items ≡ c.loop-order.yielded ++ order ∷ rest =
    taken_next c.args.orders.items c.into_iter-order-iterator.result c.loop-order.yielded c.loop-order.order-iterator order rest c.into_iter-order-iterator.ensures.into_iter_gives.0 c.loop-order.yielded_by c.in-Some.ensures.steps.0 in
    let so_far = c.loop-order.invariant.served in
    let step = c.serve_order.ensures.served in
    let front = so_far.0 ++ step.0 in
    let parts =
    phase_parts Tells Ports _ c.args.orders.items front (step.1 ++ map unlined rest) (so_far.1 ++ step.2) old was new held
    (waits_all c.args.orders.items c.loop-order.yielded so_far.0 step.0 step.1 (orders_of c.loop-order.queue.caller c.loop-order.queue.changes.items) rest order whole so_far.2 step.3) (λ is. absurd (false≢true is))
    (stretch_then Tells Ports so_far.0 step.0 so_far.1 step.2 old mid new was amid held so_far.4 step.6) in
    (parts.0, parts.1, so_far.1 ++ step.2, parts.2, parts.3, step.5 ∙ ap (λ l. l ++ step.2) so_far.3 ∙ append_assoc c.args.lines.now.items so_far.1 step.2, parts.4)

pub returns-then-not-serve_order-clause-rounds : goal.returns-then-not-serve_order-clause-rounds
returns-then-not-serve_order-clause-rounds g c =
    let order = c.in-Some.order in
    let rest = c.next.new.self.rest.items in
    let whole : c.args.orders.items ≡ c.loop-order.yielded ++ order ∷ rest =
    taken_next c.args.orders.items c.into_iter-order-iterator.result c.loop-order.yielded c.loop-order.order-iterator order rest c.into_iter-order-iterator.ensures.into_iter_gives.0 c.loop-order.yielded_by c.in-Some.ensures.steps.0 in
    let all = ap length whole ∙ length-append c.loop-order.yielded (order ∷ rest) in
    let so_far = c.loop-order.invariant.rounds in
    let step = c.serve_order.ensures.rounds in
    omega (arith, all, so_far, step)

pub returns-then-not-serve_order-clause-made : goal.returns-then-not-serve_order-clause-made
returns-then-not-serve_order-clause-made g c =
    let order = c.in-Some.order in
    let rest = c.next.new.self.rest.items in
    let whole : c.args.orders.items ≡ c.loop-order.yielded ++ order ∷ rest =
    taken_next c.args.orders.items c.into_iter-order-iterator.result c.loop-order.yielded c.loop-order.order-iterator order rest c.into_iter-order-iterator.ensures.into_iter_gives.0 c.loop-order.yielded_by c.in-Some.ensures.steps.0 in
    let all = ap length whole ∙ length-append c.loop-order.yielded (order ∷ rest) in
    let so_far = c.loop-order.invariant.made in
    let step = c.serve_order.ensures.made in
    omega (arith, all, so_far, step)

pub returns-clause-served : goal.returns-clause-served
returns-clause-served g c =
    let old = view_of c.args.engine.now.core in
    let mid = view_of c.loop-order.engine.core in
    let new = view_of c.serve_row.new.engine.core in
    let was = c.args.slots.now.held.items in
    let amid = c.loop-order.slots.held.items in
    let held = c.serve_row.new.slots.held.items in
    let Tells = g.D.Disk.tells in
    let Ports = g.D.Disk.ports_fail in
    let caller = c.loop-order.queue.caller in
    let gives = c.into_iter-order-iterator.ensures.into_iter_gives in
    let ended = YieldsList-end (YieldsList-from_vec c.args.orders.items gives.0 (gives.1 ∙ search rules)) c.loop-order.yielded c.loop-order.order-iterator c.loop-order.yielded_by c.next.result c.next.new.self c.in-None.is c.next.ensures.steps in
    let all : c.args.orders.items ≡ c.loop-order.yielded = sym ended.0 ∙ map-id c.loop-order.yielded in
    let so_far = c.loop-order.invariant.served in
    let last = c.serve_row.ensures.served in
    let row = last.2 in
    let front = so_far.0 ++ orders_of caller row.front in
    let parts =
    phase_parts Tells Ports _ c.args.orders.items front (orders_of caller last.0) (so_far.1 ++ row.more) old was new held
    (waits_row c.args.orders.items so_far.0 (orders_of caller c.loop-order.queue.changes.items) (orders_of caller row.front) (orders_of caller last.0) (ap (map unlined) all ∙ so_far.2)
    (ap (orders_of caller) row.are ∙ orders_append caller row.front last.0)) (λ whole. ap (orders_of caller) (last.1 whole))
    (stretch_then Tells Ports so_far.0 (orders_of caller row.front) so_far.1 row.more old mid new was amid held so_far.4 row.stretch) in
    (parts.0, parts.1, so_far.1 ++ row.more, parts.2, parts.3, row.lines ∙ ap (λ l. l ++ row.more) so_far.3 ∙ append_assoc c.args.lines.now.items so_far.1 row.more, parts.4)
