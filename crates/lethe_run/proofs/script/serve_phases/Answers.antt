use Rattle.std.proofs.Common.{rules, ◌≡◌, ◌≤◌, ◌+◌, ◌++◌, ℕ, length, ◌∷◌, [], Some, refl, sym, ap, ◌∙◌, subst, arith}
use Rattle.std.specs.Prelude.{All, IsSome}
use Rattle.std.specs.List.{flat_map, sum_by}
use Rattle.std.proofs.lemmas.List.{length-append, map-id}
use Rattle.std.proofs.lemmas.List.Sums.{sum_by-append, sum_by-cons, sum_by_push}
use Rattle.std.proofs.lemmas.Iterator.Consumers.{YieldsList-end}
use Rattle.std.proofs.lemmas.Iterator.Adapters.{YieldsList-from_vec}
use Rattle.lethe_base.specs.Counts.{Rose}
use Rattle.lethe_base.specs.Limits.{max_place}
use Rattle.lethe_core.specs.View.{view_of}
use Rattle.lethe_script.specs.declared.order.Order.{Order}
use Rattle.lethe_script.specs.Slots.{held_through, none_held, orders_by}
use Rattle.lethe_run.specs.Refusals.{IsFirstOr, all_of}
use Rattle.lethe_run.specs.Holding.{AreShown, held_by, held_for, slots_for}
use Rattle.lethe_run.specs.Scripts.{ScriptEnds}
use Rattle.lethe_run.proofs.Callers.{by_append}
use Rattle.lethe_run.proofs.Endings.{Before, before_any, next_so_far, cut_ends, all_ends, served_phase}
use Rattle.lethe_run.proofs.Holding.{no_slots_for, none_for, none_shown, none_ten}
use Rattle.lethe_run.proofs.Phases.{appends_none, whole_text}
use Rattle.lethe_run.proofs.Refusals.{all_more, lines_fit}
use Rattle.lethe_run.proofs.Runs.{taken_next}
use Rattle.lethe_run.proofs.Slotted.{flat_more, flat_parts, part_finds, part_holds}
use Rattle.lethe_run.proofs.script.serve_phases.Goals as goal

pub loop-orders-init : goal.loop-orders-init
loop-orders-init g c =
    let old = view_of c.args.engine.core in
    let held = held_by c.args.slots.of.items in
    record {
      sound = c.requires.sound;
      sink = omega arith;
      faults = omega arith;
      rounds = omega arith;
      made = omega arith;
      printed = omega arith;
      tens = none_ten held c.requires.none;
      slotted = λ caller. ap Some (sym (none_for held c.requires.none caller));
      lines = (
        [],
        appends_none (g.K.Sink.taken c.args.sink.now),
        refl,
        refl,
        before_any g.D.Disk.tells g.D.Disk.ports_fail old (λ caller. slots_for caller held) (λ h. All (AreShown h) held) (no_slots_for held c.requires.none) (none_shown held c.requires.none),
      );
    }

pub loop-orders-preserved : goal.loop-orders-preserved
loop-orders-preserved g c =
    let old = view_of c.args.engine.core in
    let mid = view_of c.loop-orders.engine.core in
    let new = view_of c.serve_phase-served.new.engine.core in
    let so_far = c.loop-orders.invariant.lines in
    let more = c.serve_phase-served.result.lines.items in
    let whole = c.serve_phase-served.result.whole in
    let laws = g.met.D.Disk g.world.𝓛 g.world.𝓜 g.world.𝓡 ((λ s x. x), (λ x. x), (λ x. x), λ x. x) in
    let was = held_by c.loop-orders.slots.of.items in
    let held = held_by c.serve_phase-served.new.slots.of.items in
    let between = λ (caller : ℕ). slots_for caller was in
    let behind = λ (caller : ℕ). slots_for caller held in
    let served = c.serve_phase-served.ensures.served in
    let up = served.3.faults in
    let phase = served_phase g.D.Disk.tells g.D.Disk.ports_fail mid new was held _ c.in-Some.orders whole more c.into_vec.ensures served in
    record {
      sound = c.serve_phase-served.ensures.sound;
      sink = let a = c.loop-orders.invariant.sink in let b = c.print_phase.ensures.faults in omega (arith, a, b);
      faults = let a = c.loop-orders.invariant.faults in omega (arith, a, up);
      rounds =
          let before = c.loop-orders.invariant.rounds in
          let step = c.serve_phase-served.ensures.rounds in
          let size = ap length c.into_vec.ensures in
          let more = sum_by_push (length {A = Order}) c.loop-orders.yielded c.in-Some.orders in
          omega (arith, before, step, size, more);
      made =
          let before = c.loop-orders.invariant.made in
          let step = c.serve_phase-served.ensures.made in
          let size = ap length c.into_vec.ensures in
          let more = sum_by_push (length {A = Order}) c.loop-orders.yielded c.in-Some.orders in
          omega (arith, before, step, size, more);
      printed =
          let before = c.loop-orders.invariant.printed in
          let few = c.serve_phase-served.ensures.few in
          let size = ap length c.into_vec.ensures in
          let orders = sum_by_push (length {A = Order}) c.loop-orders.yielded c.in-Some.orders in
          omega (arith, before, few, size, orders);
      tens = c.serve_phase-served.ensures.tens;
      slotted = λ caller.
          ap (λ orders. held_through (orders_by caller orders) none_held) (flat_more c.loop-orders.yielded c.in-Some.orders)
          ∙ ap (λ orders. held_through orders none_held) (by_append caller (flat_map (λ orders. orders) c.loop-orders.yielded) c.in-Some.orders)
          ∙ part_holds (orders_by caller (flat_map (λ orders. orders) c.loop-orders.yielded)) none_held (held_for caller was) (c.loop-orders.invariant.slotted caller) (orders_by caller c.in-Some.orders) (held_for caller held)
          (subst (λ orders. held_through (orders_by caller orders) (held_for caller was) ≡ Some (held_for caller held)) c.into_vec.ensures (c.serve_phase-served.ensures.slotted c.in_default.ensures.ok.0 caller));
      lines = (
        so_far.0 ++ more ∷ [],
        whole_text (g.K.Sink.taken c.args.sink.now) (g.K.Sink.taken c.loop-orders.sink) (g.K.Sink.taken c.print_phase.new.sink) so_far.0 more so_far.1 c.in_default.ensures.ok.1,
        subst (λ all. IsFirstOr all c.first_refusal-refused.result) (sym (all_more so_far.0 more)) (subst (λ l. IsFirstOr (all_of so_far.0 ++ l) c.first_refusal-refused.result) c.deref.ensures.value (c.first_refusal-refused.ensures (all_of so_far.0) so_far.3 so_far.2)),
        (let size = so_far.3 in let step = ap length (all_more so_far.0 more) ∙ length-append (all_of so_far.0) more in omega (arith, size, step)),
        next_so_far g.D.Disk.tells g.D.Disk.ports_fail old new (λ told. laws.itself told c.serve_phase-served.new.engine.core.disk) behind (λ h. All (AreShown h) held) mid between (λ h. All (AreShown h) was) c.loop-orders.invariant.faults up (c.loop-orders.yielded ++ c.in-Some.orders ∷ []) c.loop-orders.yielded [] c.in-Some.orders refl so_far.0 more
            whole so_far.4 phase c.in_default.ensures.ok.0,
      );
    }

pub returns-in-Err-clause-ends : goal.returns-in-Err-clause-ends
returns-in-Err-clause-ends g c =
    let old = view_of c.args.engine.core in
    let mid = view_of c.loop-orders.engine.core in
    let new = view_of c.serve_phase-served.new.engine.core in
    let so_far = c.loop-orders.invariant.lines in
    let more = c.serve_phase-served.result.lines.items in
    let whole = c.serve_phase-served.result.whole in
    let laws = g.met.D.Disk g.world.𝓛 g.world.𝓜 g.world.𝓡 ((λ s x. x), (λ x. x), (λ x. x), λ x. x) in
    let was = held_by c.loop-orders.slots.of.items in
    let held = held_by c.serve_phase-served.new.slots.of.items in
    let between = λ (caller : ℕ). slots_for caller was in
    let behind = λ (caller : ℕ). slots_for caller held in
    let served = c.serve_phase-served.ensures.served in
    let up = served.3.faults in
    let phase = served_phase g.D.Disk.tells g.D.Disk.ports_fail mid new was held _ c.in-Some.orders whole more c.into_vec.ensures served in
    let s0 = g.K.Sink.faults c.args.sink.now in
    let s1 = g.K.Sink.faults c.loop-orders.sink in
    let s2 = g.K.Sink.faults c.print_phase.new.sink in
    let t0 = g.K.Sink.taken c.args.sink.now in
    let t2 = g.K.Sink.taken c.print_phase.new.sink in
    let low = c.loop-orders.invariant.sink in
    let rest = c.next.new.self.rest.items in
    let are : c.args.phases ≡ c.loop-orders.yielded ++ c.in-Some.orders ∷ rest =
    taken_next c.args.phases c.into_iter-orders-iterator.result c.loop-orders.yielded c.loop-orders.orders-iterator c.in-Some.orders rest (c.into_iter-orders-iterator.ensures.into_iter_gives.0 ∙ c.into_vec-orders-items.ensures) c.loop-orders.yielded_by c.in-Some.ensures.steps.0 in
    subst (λ d. ScriptEnds g.D.Disk.tells g.D.Disk.ports_fail old (g.D.Disk.seen d) (g.D.Disk.faults d) t0 t2 (Rose s0 s2) c.args.phases c.in-Err.why) (sym c.hand_back.ensures)
    (cut_ends g.D.Disk.tells g.D.Disk.ports_fail old new (λ told. laws.itself told c.serve_phase-served.new.engine.core.disk) behind (λ h. All (AreShown h) held) mid between (λ h. All (AreShown h) was) c.loop-orders.invariant.faults up c.args.phases c.loop-orders.yielded rest c.in-Some.orders are so_far.0 more
    whole so_far.4 phase t0 (g.K.Sink.taken c.loop-orders.sink) t2 (Rose s1 s2) (Rose s0 s2) c.in-Err.why (λ rose. omega (arith, rose, low)) so_far.1 c.print_phase.ensures.front c.in-Err.ensures.err)

pub returns-clause-ends : goal.returns-clause-ends
returns-clause-ends g c =
    let old = view_of c.args.engine.core in
    let mid = view_of c.loop-orders.engine.core in
    let held = held_by c.loop-orders.slots.of.items in
    let so_far = c.loop-orders.invariant.lines in
    let laws = g.met.D.Disk g.world.𝓛 g.world.𝓜 g.world.𝓡 ((λ s x. x), (λ x. x), (λ x. x), λ x. x) in
    let gives = c.into_iter-orders-iterator.ensures.into_iter_gives in
    let ended = YieldsList-end (YieldsList-from_vec c.into_vec-orders-items.result.items gives.0 (gives.1 ∙ search rules)) c.loop-orders.yielded c.loop-orders.orders-iterator c.loop-orders.yielded_by c.next.result c.next.new.self c.in-None.is c.next.ensures.steps in
    let whole : c.loop-orders.yielded ≡ c.args.phases = sym (map-id c.loop-orders.yielded) ∙ ended.0 ∙ c.into_vec-orders-items.ensures in
    let s0 = g.K.Sink.faults c.args.sink.now in
    let s1 = g.K.Sink.faults c.loop-orders.sink in
    let t0 = g.K.Sink.taken c.args.sink.now in
    let t1 = g.K.Sink.taken c.loop-orders.sink in
    subst (λ d. ScriptEnds g.D.Disk.tells g.D.Disk.ports_fail old (g.D.Disk.seen d) (g.D.Disk.faults d) t0 t1 (Rose s0 s1) c.args.phases c.reason_for.result) (sym c.hand_back-2.ensures)
    (subst (λ st. ScriptEnds g.D.Disk.tells g.D.Disk.ports_fail old mid.disk mid.faults t0 t1 (Rose s0 s1) c.args.phases st) (sym c.reason_for.ensures)
    (all_ends g.D.Disk.tells g.D.Disk.ports_fail old mid (λ told. laws.itself told c.loop-orders.engine.core.disk) (λ caller. slots_for caller held) (λ h. All (AreShown h) held) c.args.phases so_far.0 t0 t1 (Rose s0 s1) c.loop-orders.refused
    (subst (λ p. Before g.D.Disk.tells g.D.Disk.ports_fail old mid (λ caller. slots_for caller held) (λ h. All (AreShown h) held) p so_far.0) whole so_far.4) so_far.1 so_far.2))

pub serve_phase-served-requires-clause-rounds : goal.serve_phase-served-requires-clause-rounds
serve_phase-served-requires-clause-rounds g c =
    let orders = c.in-Some.orders in
    let rest = c.next.new.self.rest.items in
    let are : c.args.phases ≡ c.loop-orders.yielded ++ orders ∷ rest =
    taken_next c.args.phases c.into_iter-orders-iterator.result c.loop-orders.yielded c.loop-orders.orders-iterator orders rest (c.into_iter-orders-iterator.ensures.into_iter_gives.0 ∙ c.into_vec-orders-items.ensures) c.loop-orders.yielded_by c.in-Some.ensures.steps.0 in
    let all = ap (sum_by (length {A = Order})) are ∙ sum_by-append (length {A = Order}) c.loop-orders.yielded (orders ∷ rest) in
    let first = sum_by-cons (length {A = Order}) orders rest in
    let size = ap length c.into_vec.ensures in
    let so_far = c.loop-orders.invariant.rounds in
    let most = c.requires.rounds in
    omega (arith, all, first, size, so_far, most)

pub serve_phase-served-requires-clause-made : goal.serve_phase-served-requires-clause-made
serve_phase-served-requires-clause-made g c =
    let orders = c.in-Some.orders in
    let rest = c.next.new.self.rest.items in
    let are : c.args.phases ≡ c.loop-orders.yielded ++ orders ∷ rest =
    taken_next c.args.phases c.into_iter-orders-iterator.result c.loop-orders.yielded c.loop-orders.orders-iterator orders rest (c.into_iter-orders-iterator.ensures.into_iter_gives.0 ∙ c.into_vec-orders-items.ensures) c.loop-orders.yielded_by c.in-Some.ensures.steps.0 in
    let all = ap (sum_by (length {A = Order})) are ∙ sum_by-append (length {A = Order}) c.loop-orders.yielded (orders ∷ rest) in
    let first = sum_by-cons (length {A = Order}) orders rest in
    let size = ap length c.into_vec.ensures in
    let so_far = c.loop-orders.invariant.made in
    let most = c.requires.made in
    omega (arith, all, first, size, so_far, most)

pub serve_phase-served-requires-clause-slotted : goal.serve_phase-served-requires-clause-slotted
serve_phase-served-requires-clause-slotted g c κs within = λ caller.
    let orders = c.in-Some.orders in
    let rest = c.next.new.self.rest.items in
    let was = held_for caller (held_by c.loop-orders.slots.of.items) in
    let before = flat_map (λ orders. orders) c.loop-orders.yielded in
    let behind = flat_map (λ orders. orders) rest in
    let are : c.args.phases ≡ c.loop-orders.yielded ++ orders ∷ rest =
    taken_next c.args.phases c.into_iter-orders-iterator.result c.loop-orders.yielded c.loop-orders.orders-iterator orders rest (c.into_iter-orders-iterator.ensures.into_iter_gives.0 ∙ c.into_vec-orders-items.ensures) c.loop-orders.yielded_by c.in-Some.ensures.steps.0 in
    let whole = ap (orders_by caller) (flat_parts c.args.phases c.loop-orders.yielded rest orders are) ∙ by_append caller before (orders ++ behind) ∙ ap (λ l. orders_by caller before ++ l) (by_append caller orders behind) in
    subst (λ orders. IsSome (held_through (orders_by caller orders) was)) (sym c.into_vec.ensures)
    (part_finds (orders_by caller before) none_held was (c.loop-orders.invariant.slotted caller) (orders_by caller orders) (orders_by caller behind)
    (subst (λ l. IsSome (held_through l none_held)) whole (c.requires.slotted caller)))

pub first_refusal-refused-requires : goal.first_refusal-refused-requires
first_refusal-refused-requires g c =
    let rest = c.next.new.self.rest.items in
    let are : c.args.phases ≡ c.loop-orders.yielded ++ c.in-Some.orders ∷ rest =
    taken_next c.args.phases c.into_iter-orders-iterator.result c.loop-orders.yielded c.loop-orders.orders-iterator c.in-Some.orders rest (c.into_iter-orders-iterator.ensures.into_iter_gives.0 ∙ c.into_vec-orders-items.ensures) c.loop-orders.yielded_by c.in-Some.ensures.steps.0 in
    let few = c.serve_phase-served.ensures.few in
    let size = ap length c.into_vec.ensures in
    subst (λ l. c.loop-orders.printed + length l ≤ max_place) (sym c.deref.ensures.value)
    (lines_fit c.args.phases c.loop-orders.yielded rest c.in-Some.orders c.serve_phase-served.result.lines.items c.loop-orders.printed c.args.engine.core.begun.rounds max_place are (omega (arith, few, size)) c.loop-orders.invariant.printed c.requires.rounds)

pub overflow_add-printed : goal.overflow_add-printed
overflow_add-printed g c =
    let rest = c.next.new.self.rest.items in
    let are : c.args.phases ≡ c.loop-orders.yielded ++ c.in-Some.orders ∷ rest =
    taken_next c.args.phases c.into_iter-orders-iterator.result c.loop-orders.yielded c.loop-orders.orders-iterator c.in-Some.orders rest (c.into_iter-orders-iterator.ensures.into_iter_gives.0 ∙ c.into_vec-orders-items.ensures) c.loop-orders.yielded_by c.in-Some.ensures.steps.0 in
    let few = c.serve_phase-served.ensures.few in
    let same = ap length c.into_vec.ensures in
    let fit =
    lines_fit c.args.phases c.loop-orders.yielded rest c.in-Some.orders c.serve_phase-served.result.lines.items c.loop-orders.printed c.args.engine.core.begun.rounds max_place are (omega (arith, few, same)) c.loop-orders.invariant.printed c.requires.rounds in
    let size = c.len.ensures in
    omega (arith, fit, size)
