use Rattle.std.proofs.Common.{rules, ◌≡◌, ◌<◌, ◌+◌, inl, inr, ℕ, suc, [], ◌∷◌, ◌++◌, length, map, true, None, Some, refl, sym, ap, ◌∙◌, subst, arith, append-nil}
use mathlib.Core.Bool.{false≢true}
use Rattle.std.specs.Prelude.{IsSome, replicate, slice_set}
use Rattle.std.proofs.lemmas.Bool.{cases_lt}
use Rattle.std.proofs.lemmas.List.{length-map, length_push, map-append, map-id, map-set}
use Rattle.std.proofs.lemmas.List.Sums.{sum_by_push}
use Rattle.std.proofs.lemmas.Iterator.Consumers.{YieldsList-end}
use Rattle.std.proofs.lemmas.Iterator.Adapters.{YieldsList-from_vec}
use Rattle.lethe_core.specs.View.{view_of}
use Rattle.lethe_script.specs.Slots.{held_through, orders_by}
use Rattle.lethe_run.specs.Callers.{IsPhaseOfAll}
use Rattle.lethe_run.specs.Holding.{AreTen, held_by, held_for, held_in}
use Rattle.lethe_run.specs.Rows.{IsStretch}
use Rattle.lethe_run.proofs.Callers.{all_in, all_of_all, fronts_of_all, held_other, held_same, next_fronts, none_fronts, none_of_nobody, none_of_strange, own_fit, own_fit_all, own_next, part_is_own, phase_more, phase_none, seen_at, ten_more}
use Rattle.lethe_run.proofs.Runs.{taken_next}
use Rattle.lethe_run.proofs.Slotted.{flat_more}
use Rattle.lethe_run.proofs.serve.serve_callers.Goals as goal
use Rattle.lethe_run.proofs.serve.serve_callers.Goals.{then-not-serve_caller, else-not-serve_caller}

pub returns-in_default-clause-served : goal.returns-in_default-clause-served
returns-in_default-clause-served g c =
    let view = view_of c.args.engine.now.core in
    let held = held_by c.args.slots.now.of.items in
    let Tells = g.D.Disk.tells in
    let Ports = g.D.Disk.ports_fail in
    ([], none_fronts c.args.orders.items, (λ is. absurd (false≢true is)), subst (λ l. IsPhaseOfAll Tells Ports [] l view held view held) (sym c.new.ensures.items) (phase_none Tells Ports view held))

pub returns-in_default-by_caller-clause-served : goal.returns-in_default-by_caller-clause-served
returns-in_default-by_caller-clause-served g c =
    let view = view_of c.args.engine.now.core in
    let held = held_by c.args.slots.now.of.items in
    let Tells = g.D.Disk.tells in
    let Ports = g.D.Disk.ports_fail in
    ([], none_fronts c.args.orders.items, (λ is. absurd (false≢true is)), subst (λ l. IsPhaseOfAll Tells Ports [] l view held view held) (sym c.in-Ok.ensures.items) (phase_none Tells Ports view held))

pub loop-orders-init : goal.loop-orders-init
loop-orders-init g c =
    let view = view_of c.args.engine.now.core in
    let held = held_by c.args.slots.now.of.items in
    let Tells = g.D.Disk.tells in
    let Ports = g.D.Disk.ports_fail in
    record {
      sound = c.requires.sound;
      served = ([], tt, refl, (λ is. refl), subst (λ l. IsPhaseOfAll Tells Ports [] l view held view held) (sym c.in-Ok.ensures.items) (phase_none Tells Ports view held));
      index = refl;
      rounds = omega arith;
      made = omega arith;
      tens = c.requires.tens;
      slotted = λ is caller low. none_of_nobody c.args.orders.items held caller c.in-Ok-by_caller.ensures.callers (omega (arith, low));
      others = λ caller above. refl;
      room = let room = c.in-Ok.ensures.capacity in let size = c.len.ensures in let items = c.args.orders.ok.0 in omega (arith, room, size, items);
      len = let none = c.in-Ok.ensures.len in omega (arith, none);
    }

pub index_mut-requires : goal.index_mut-requires
index_mut-requires g c =
    let own = c.in-Ok-by_caller.own.items in
    let rest = c.next.new.self.rest.items in
    let are : own ≡ c.loop-orders.yielded ++ c.in-Some.orders ∷ rest =
    taken_next own c.into_iter-orders-iterator.result c.loop-orders.yielded c.loop-orders.orders-iterator c.in-Some.orders rest c.into_iter-orders-iterator.ensures.into_iter_gives.0 c.loop-orders.yielded_by c.in-Some.ensures.steps.0 in
    let next = own_next (λ list. list.items) 0 8 c.args.orders.items c.loop-orders.yielded c.in-Some.orders rest (ap (map (λ list. list.items)) (sym are) ∙ c.in-Ok-by_caller.ensures.own) in
    let within = next.1 in
    let index = c.loop-orders.invariant.index in
    let eight = sym (length-map c.loop-orders.slots.of.items (λ own. own.held.items)) ∙ c.loop-orders.invariant.tens.eight in
    let size = c.loop-orders.slots.of.ok.0 in
    omega (arith, within, index, eight, size)

pub serve_caller-requires-clause-rounds : goal.serve_caller-requires-clause-rounds
serve_caller-requires-clause-rounds g c κs within =
    let own = c.in-Ok-by_caller.own.items in
    let rest = c.next.new.self.rest.items in
    let are : own ≡ c.loop-orders.yielded ++ c.in-Some.orders ∷ rest =
    taken_next own c.into_iter-orders-iterator.result c.loop-orders.yielded c.loop-orders.orders-iterator c.in-Some.orders rest c.into_iter-orders-iterator.ensures.into_iter_gives.0 c.loop-orders.yielded_by c.in-Some.ensures.steps.0 in
    let fit = own_fit (λ list. list.items) c.args.orders.items c.loop-orders.yielded c.in-Some.orders rest (ap (map (λ list. list.items)) (sym are) ∙ c.in-Ok-by_caller.ensures.own) in
    let so_far = c.loop-orders.invariant.rounds in
    let most = c.requires.rounds in
    omega (arith, fit, so_far, most)

pub serve_caller-requires-clause-made : goal.serve_caller-requires-clause-made
serve_caller-requires-clause-made g c κs within =
    let own = c.in-Ok-by_caller.own.items in
    let rest = c.next.new.self.rest.items in
    let are : own ≡ c.loop-orders.yielded ++ c.in-Some.orders ∷ rest =
    taken_next own c.into_iter-orders-iterator.result c.loop-orders.yielded c.loop-orders.orders-iterator c.in-Some.orders rest c.into_iter-orders-iterator.ensures.into_iter_gives.0 c.loop-orders.yielded_by c.in-Some.ensures.steps.0 in
    let fit = own_fit (λ list. list.items) c.args.orders.items c.loop-orders.yielded c.in-Some.orders rest (ap (map (λ list. list.items)) (sym are) ∙ c.in-Ok-by_caller.ensures.own) in
    let so_far = c.loop-orders.invariant.made in
    let most = c.requires.made in
    omega (arith, fit, so_far, most)

pub serve_caller-requires-clause-room : goal.serve_caller-requires-clause-room
serve_caller-requires-clause-room g c κs within =
    let own = c.in-Ok-by_caller.own.items in
    let rest = c.next.new.self.rest.items in
    let are : own ≡ c.loop-orders.yielded ++ c.in-Some.orders ∷ rest =
    taken_next own c.into_iter-orders-iterator.result c.loop-orders.yielded c.loop-orders.orders-iterator c.in-Some.orders rest c.into_iter-orders-iterator.ensures.into_iter_gives.0 c.loop-orders.yielded_by c.in-Some.ensures.steps.0 in
    let fit = own_fit (λ list. list.items) c.args.orders.items c.loop-orders.yielded c.in-Some.orders rest (ap (map (λ list. list.items)) (sym are) ∙ c.in-Ok-by_caller.ensures.own) in
    let len = c.loop-orders.invariant.len in
    let room = c.loop-orders.invariant.room in
    omega (arith, fit, len, room)

pub serve_caller-requires-clause-ten : goal.serve_caller-requires-clause-ten
serve_caller-requires-clause-ten g c κs within =
    let own = c.in-Ok-by_caller.own.items in
    let rest = c.next.new.self.rest.items in
    let are : own ≡ c.loop-orders.yielded ++ c.in-Some.orders ∷ rest =
    taken_next own c.into_iter-orders-iterator.result c.loop-orders.yielded c.loop-orders.orders-iterator c.in-Some.orders rest c.into_iter-orders-iterator.ensures.into_iter_gives.0 c.loop-orders.yielded_by c.in-Some.ensures.steps.0 in
    let next = own_next (λ list. list.items) 0 8 c.args.orders.items c.loop-orders.yielded c.in-Some.orders rest (ap (map (λ list. list.items)) (sym are) ∙ c.in-Ok-by_caller.ensures.own) in
    let slots = c.loop-orders.slots.of.items in
    let index = c.loop-orders.index in
    let at = c.loop-orders.invariant.index in
    let below = next.1 in
    let size = length-map slots (λ own. own.held.items) in
    let eight = c.loop-orders.invariant.tens.eight in
    let here = seen_at (λ own. own.held.items) slots index c.index_mut.result.now (replicate 10 None) (omega (arith, below, at, size, eight)) c.index_mut.ensures.value in
    ap length here ∙ c.loop-orders.invariant.tens.ten index (replicate 10 None) (omega (arith, below, at, eight))

pub serve_caller-requires-clause-slotted : goal.serve_caller-requires-clause-slotted
serve_caller-requires-clause-slotted g c κs within =
    let own = c.in-Ok-by_caller.own.items in
    let rest = c.next.new.self.rest.items in
    let orders = c.args.orders.items in
    let are : own ≡ c.loop-orders.yielded ++ c.in-Some.orders ∷ rest =
    taken_next own c.into_iter-orders-iterator.result c.loop-orders.yielded c.loop-orders.orders-iterator c.in-Some.orders rest c.into_iter-orders-iterator.ensures.into_iter_gives.0 c.loop-orders.yielded_by c.in-Some.ensures.steps.0 in
    let next = own_next (λ list. list.items) 0 8 orders c.loop-orders.yielded c.in-Some.orders rest (ap (map (λ list. list.items)) (sym are) ∙ c.in-Ok-by_caller.ensures.own) in
    let slots = c.loop-orders.slots.of.items in
    let index = c.loop-orders.index in
    let at = c.loop-orders.invariant.index in
    let below = next.1 in
    let size = length-map slots (λ own. own.held.items) in
    let eight = c.loop-orders.invariant.tens.eight in
    let here = seen_at (λ own. own.held.items) slots index c.index_mut.result.now (replicate 10 None) (omega (arith, below, at, size, eight)) c.index_mut.ensures.value in
    let own_is : c.in-Some.orders.items ≡ orders_by (suc index) orders = next.0 ∙ ap (λ m. orders_by (suc m) orders) (let same : 0 + length c.loop-orders.yielded ≡ index = omega (arith, at) in same) in
    let held : held_for (suc index) (held_by c.args.slots.now.of.items) ≡ held_in c.index_mut.result.now.held.items = sym (c.loop-orders.invariant.others (suc index) (omega arith)) ∙ ap held_in (sym here) in
    subst (λ l. IsSome (held_through l (held_in c.index_mut.result.now.held.items))) (sym own_is) (subst (λ held. IsSome (held_through (orders_by (suc index) orders) held)) held (c.requires.slotted (suc index)))

pub loop-orders-preserved : goal.loop-orders-preserved
loop-orders-preserved g c =
    let Tells = g.D.Disk.tells in
    let Ports = g.D.Disk.ports_fail in
    let own = c.in-Ok-by_caller.own.items in
    let orders = c.args.orders.items in
    let yielded = c.loop-orders.yielded in
    let now = c.in-Some.orders in
    let rest = c.next.new.self.rest.items in
    let index = c.loop-orders.index in
    let old = view_of c.args.engine.now.core in
    let mid = view_of c.loop-orders.engine.core in
    let new = view_of c.serve_caller.new.engine.core in
    let slots = c.loop-orders.slots.of.items in
    let was = held_by c.args.slots.now.of.items in
    let between = held_by slots in
    let next = c.serve_caller.new.slots.held.items in
    let are : own ≡ yielded ++ now ∷ rest =
    taken_next own c.into_iter-orders-iterator.result yielded c.loop-orders.orders-iterator now rest c.into_iter-orders-iterator.ensures.into_iter_gives.0 c.loop-orders.yielded_by c.in-Some.ensures.steps.0 in
    let at = own_next (λ list. list.items) 0 8 orders yielded now rest (ap (map (λ list. list.items)) (sym are) ∙ c.in-Ok-by_caller.ensures.own) in
    let so_far = c.loop-orders.invariant.served in
    let step = c.serve_caller.ensures.served in
    let place = c.loop-orders.invariant.index in
    let below = at.1 in
    let size = length-map slots (λ own. own.held.items) in
    let eight = c.loop-orders.invariant.tens.eight in
    let within : index < length between = omega (arith, below, place, eight) in
    let here = seen_at (λ own. own.held.items) slots index c.index_mut.result.now (replicate 10 None) (omega (arith, below, place, size, eight)) c.index_mut.ensures.value in
    let now_is : now.items ≡ orders_by (suc index) orders = at.0 ∙ ap (λ m. orders_by (suc m) orders) (let same : 0 + length yielded ≡ index = omega (arith, place) in same) in
    let own_is : orders_by (suc index) orders ≡ step.0 ++ step.1 = sym now_is ∙ step.3 in
    let fronts = next_fronts orders step.0 step.1 so_far.0 index so_far.1 so_far.2 own_is in
    let stretch = subst (λ held. IsStretch Tells Ports step.0 step.2 mid held new next) here step.6 in
    let phase = phase_more Tells Ports (all_in so_far.0) step.0 c.loop-orders.lines.items step.2 old mid new was between next index within (part_is_own index orders step.0 step.1 own_is) so_far.4 stretch in
    let set : held_by (slice_set slots index c.serve_caller.new.slots) ≡ slice_set between index next = map-set (λ own. own.held.items) slots index c.serve_caller.new.slots in
    let split : c.if-not-serve_caller.whole ≡ true → (c.serve_caller.result ≡ true) × (c.loop-orders.whole ≡ true) =
    elim c.if-not-serve_caller.branch [
      | then-not-serve_caller w ↦ λ is. absurd (false≢true (sym w.whole-is ∙ is))
      | else-not-serve_caller w ↦ λ is. (w.if-not-serve_caller.false, sym w.whole-is ∙ is)
    ] in
    let more = sum_by_push (λ list. length list.items) yielded now in
    record {
      sound = c.serve_caller.ensures.sound;
      served = (
        so_far.0 ++ step.0 ∷ [],
        fronts.0,
        fronts.1,
        (λ is.
            let both = split is in
            let all : step.0 ≡ now.items = sym (append-nil step.0) ∙ ap (λ l. step.0 ++ l) (sym (step.4 both.0)) ∙ sym step.3 in
            ap (λ l. l ++ step.0 ∷ []) (so_far.3 both.1) ∙ ap (λ part. map (λ list. list.items) yielded ++ part ∷ []) all ∙ sym (map-append (λ list. list.items) yielded (now ∷ []))),
        subst (λ os. IsPhaseOfAll Tells Ports os c.serve_caller.new.lines.items old was new (held_by (slice_set slots index c.serve_caller.new.slots))) (sym (flat_more so_far.0 step.0))
            (subst (λ ls. IsPhaseOfAll Tells Ports (all_in so_far.0 ++ step.0) ls old was new (held_by (slice_set slots index c.serve_caller.new.slots))) (sym step.5)
            (subst (λ held. IsPhaseOfAll Tells Ports (all_in so_far.0 ++ step.0) (c.loop-orders.lines.items ++ step.2) old was new held) (sym set) phase)),
      );
      index = let longer = length_push yielded now in omega (arith, place, longer);
      rounds = let a = c.loop-orders.invariant.rounds in let b = c.serve_caller.ensures.rounds in omega (arith, a, b, more);
      made = let a = c.loop-orders.invariant.made in let b = c.serve_caller.ensures.made in omega (arith, a, b, more);
      tens = subst AreTen (sym set) (ten_more between index next c.loop-orders.invariant.tens c.serve_caller.ensures.ten);
      slotted = λ is caller low.
          let both = split is in
          let behind = λ (caller : ℕ). ap (held_for caller) set in
          elim (cases_lt caller (suc index)) [
            | inl before ↦
                c.loop-orders.invariant.slotted both.1 caller (omega (arith, before))
                ∙ ap Some (sym (behind caller ∙ held_other between index next caller (λ same. omega (arith, same, before))))
            | inr not ↦
                let is : caller ≡ suc index = omega (arith, low, not) in
                let held : held_for (suc index) was ≡ held_in c.index_mut.result.now.held.items = sym (c.loop-orders.invariant.others (suc index) (omega arith)) ∙ ap held_in (sym here) in
                subst (λ caller. held_through (orders_by caller orders) (held_for caller was) ≡ Some (held_for caller (held_by (slice_set slots index c.serve_caller.new.slots)))) (sym is)
                (ap (λ l. held_through l (held_for (suc index) was)) (sym now_is) ∙ ap (held_through now.items) held ∙ c.serve_caller.ensures.slotted both.0 ∙ ap Some (sym (behind (suc index) ∙ held_same between index next within)))
          ];
      others = λ caller above. ap (held_for caller) set ∙ held_other between index next caller (λ same. omega (arith, same, above)) ∙ c.loop-orders.invariant.others caller (omega (arith, above));
      room = let a = c.loop-orders.invariant.room in let b = c.serve_caller.ensures.capacity in omega (arith, a, b);
      len = let a = c.loop-orders.invariant.len in let b = c.serve_caller.ensures.room in omega (arith, a, b, more);
    }

pub returns-clause-served : goal.returns-clause-served
returns-clause-served g c =
    let own = c.in-Ok-by_caller.own.items in
    let orders = c.args.orders.items in
    let gives = c.into_iter-orders-iterator.ensures.into_iter_gives in
    let ended = YieldsList-end (YieldsList-from_vec own gives.0 (gives.1 ∙ search rules)) c.loop-orders.yielded c.loop-orders.orders-iterator c.loop-orders.yielded_by c.next.result c.next.new.self c.in-None.is c.next.ensures.steps in
    let all : own ≡ c.loop-orders.yielded = sym ended.0 ∙ map-id c.loop-orders.yielded in
    let so_far = c.loop-orders.invariant.served in
    let lists = c.in-Ok-by_caller.ensures.own in
    let callers = c.in-Ok-by_caller.ensures.callers in
    let many = sym (length-map own (λ list. list.items)) ∙ ap length lists in
    let size = ap length all in
    let place = c.loop-orders.invariant.index in
    let parts = so_far.2 in (
      all_in so_far.0,
      fronts_of_all orders so_far.0 callers (omega (arith, many, size, place, parts)) so_far.1,
      (λ whole. all_of_all orders so_far.0 callers (so_far.3 whole ∙ ap (map (λ list. list.items)) (sym all) ∙ lists)),
      so_far.4,
    )

pub returns-clause-few : goal.returns-clause-few
returns-clause-few g c =
    let own = c.in-Ok-by_caller.own.items in
    let gives = c.into_iter-orders-iterator.ensures.into_iter_gives in
    let ended = YieldsList-end (YieldsList-from_vec own gives.0 (gives.1 ∙ search rules)) c.loop-orders.yielded c.loop-orders.orders-iterator c.loop-orders.yielded_by c.next.result c.next.new.self c.in-None.is c.next.ensures.steps in
    let all : own ≡ c.loop-orders.yielded = sym ended.0 ∙ map-id c.loop-orders.yielded in
    let fit = own_fit_all (λ list. list.items) c.args.orders.items c.loop-orders.yielded (ap (map (λ list. list.items)) (sym all) ∙ c.in-Ok-by_caller.ensures.own) in
    let len = c.loop-orders.invariant.len in
    let items = c.loop-orders.lines.ok.0 in
    omega (arith, fit, len, items)

pub returns-clause-rounds : goal.returns-clause-rounds
returns-clause-rounds g c =
    let own = c.in-Ok-by_caller.own.items in
    let gives = c.into_iter-orders-iterator.ensures.into_iter_gives in
    let ended = YieldsList-end (YieldsList-from_vec own gives.0 (gives.1 ∙ search rules)) c.loop-orders.yielded c.loop-orders.orders-iterator c.loop-orders.yielded_by c.next.result c.next.new.self c.in-None.is c.next.ensures.steps in
    let all : own ≡ c.loop-orders.yielded = sym ended.0 ∙ map-id c.loop-orders.yielded in
    let fit = own_fit_all (λ list. list.items) c.args.orders.items c.loop-orders.yielded (ap (map (λ list. list.items)) (sym all) ∙ c.in-Ok-by_caller.ensures.own) in
    let so_far = c.loop-orders.invariant.rounds in
    omega (arith, fit, so_far)

pub returns-clause-made : goal.returns-clause-made
returns-clause-made g c =
    let own = c.in-Ok-by_caller.own.items in
    let gives = c.into_iter-orders-iterator.ensures.into_iter_gives in
    let ended = YieldsList-end (YieldsList-from_vec own gives.0 (gives.1 ∙ search rules)) c.loop-orders.yielded c.loop-orders.orders-iterator c.loop-orders.yielded_by c.next.result c.next.new.self c.in-None.is c.next.ensures.steps in
    let all : own ≡ c.loop-orders.yielded = sym ended.0 ∙ map-id c.loop-orders.yielded in
    let fit = own_fit_all (λ list. list.items) c.args.orders.items c.loop-orders.yielded (ap (map (λ list. list.items)) (sym all) ∙ c.in-Ok-by_caller.ensures.own) in
    let so_far = c.loop-orders.invariant.made in
    omega (arith, fit, so_far)

pub returns-clause-slotted : goal.returns-clause-slotted
returns-clause-slotted g c = λ whole caller.
    let own = c.in-Ok-by_caller.own.items in
    let orders = c.args.orders.items in
    let gives = c.into_iter-orders-iterator.ensures.into_iter_gives in
    let ended = YieldsList-end (YieldsList-from_vec own gives.0 (gives.1 ∙ search rules)) c.loop-orders.yielded c.loop-orders.orders-iterator c.loop-orders.yielded_by c.next.result c.next.new.self c.in-None.is c.next.ensures.steps in
    let all : own ≡ c.loop-orders.yielded = sym ended.0 ∙ map-id c.loop-orders.yielded in
    let many = sym (length-map own (λ list. list.items)) ∙ ap length c.in-Ok-by_caller.ensures.own in
    let size = ap length all in
    let place = c.loop-orders.invariant.index in
    elim (cases_lt c.loop-orders.index caller) [
      | inl above ↦
          let strange = none_of_strange orders caller c.in-Ok-by_caller.ensures.callers (omega (arith, above, many, size, place)) in
          ap (λ l. held_through l (held_for caller (held_by c.args.slots.now.of.items))) strange ∙ ap Some (sym (c.loop-orders.invariant.others caller above))
      | inr not ↦ c.loop-orders.invariant.slotted whole caller (omega (arith, not))
    ]
