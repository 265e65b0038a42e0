use Rattle.std.proofs.Common.{◌≡◌, ◌+◌, inl, inr, ℕ, suc, List, [], ◌++◌, length, map, None, Some, sym, ap, ◌∙◌, subst, arith, append-nil}
use mathlib.Core.Bool.{false≢true}
use Rattle.std.specs.Prelude.{All, IsSome, replicate, slice_set}
use Rattle.std.proofs.lemmas.Bool.Decides.{eqb_tells}
use Rattle.std.proofs.lemmas.List.{length-map, map-set}
use Rattle.std.proofs.lemmas.List.Elements.{All-weaker}
use Rattle.lethe_core.specs.View.{view_of}
use Rattle.lethe_script.specs.Slots.{held_through, orders_by}
use Rattle.lethe_script.specs.declared.order.Order.{Order}
use Rattle.lethe_run.specs.Callers.{IsPhaseOfAll}
use Rattle.lethe_run.specs.Holding.{AreTen, held_by, held_for, held_in}
use Rattle.lethe_run.specs.Rows.{IsStretch}
use Rattle.lethe_run.proofs.Callers.{AreOf, all_alone, by_another, by_itself, fronts_alone, held_other, held_same, none_fronts, part_is_own, phase_more, phase_none, seen_at, ten_more}
use Rattle.lethe_run.proofs.serve.serve_alone.Goals as goal

of_caller : (index : ℕ) (orders : List Order) → All (λ (order : Order). order.caller ≡ index + 1) orders → AreOf (suc index) orders
of_caller index orders all = All-weaker (λ (order : Order). order.caller ≡ index + 1) (λ (order : Order). order.caller ≡ suc index) (λ order is. omega (arith, is)) orders all

pub returns-in_default-clause-served : goal.returns-in_default-clause-served
returns-in_default-clause-served g c =
    let view = view_of c.args.engine.now.core in
    let held = held_by c.args.slots.now.of.items in
    let Tells = g.D.Disk.tells in
    let Ports = g.D.Disk.ports_fail in
    ([], none_fronts c.args.orders.items, (λ is. absurd (false≢true is)), subst (λ l. IsPhaseOfAll Tells Ports [] l view held view held) (sym c.new.ensures.items) (phase_none Tells Ports view held))

pub index_mut-requires : goal.index_mut-requires
index_mut-requires g c =
    let within = c.requires.within in
    let eight = sym (length-map c.args.slots.now.of.items (λ own. own.held.items)) ∙ c.requires.tens.eight in
    let size = c.args.slots.now.of.ok.0 in
    omega (arith, within, eight, size)

pub serve_caller-whole-requires-clause-ten : goal.serve_caller-whole-requires-clause-ten
serve_caller-whole-requires-clause-ten g c κs within =
    let slots = c.args.slots.now.of.items in
    let index = c.args.index in
    let below = c.requires.within in
    let size = length-map slots (λ own. own.held.items) in
    let eight = c.requires.tens.eight in
    let here = seen_at (λ own. own.held.items) slots index c.index_mut.result.now (replicate 10 None) (omega (arith, below, size, eight)) c.index_mut.ensures.value in
    ap length here ∙ c.requires.tens.ten index (replicate 10 None) (omega (arith, below, eight))

pub serve_caller-whole-requires-clause-slotted : goal.serve_caller-whole-requires-clause-slotted
serve_caller-whole-requires-clause-slotted g c κs within =
    let orders = c.args.orders.items in
    let slots = c.args.slots.now.of.items in
    let index = c.args.index in
    let below = c.requires.within in
    let size = length-map slots (λ own. own.held.items) in
    let eight = c.requires.tens.eight in
    let here = seen_at (λ own. own.held.items) slots index c.index_mut.result.now (replicate 10 None) (omega (arith, below, size, eight)) c.index_mut.ensures.value in
    let own = by_itself (suc index) orders (of_caller index orders c.requires.alone) in
    subst (λ l. IsSome (held_through l (held_in c.index_mut.result.now.held.items))) own
    (subst (λ held. IsSome (held_through (orders_by (suc index) orders) held)) (sym (ap held_in here)) (c.requires.slotted (suc index)))

pub returns-clause-served : goal.returns-clause-served
returns-clause-served g c =
    let Tells = g.D.Disk.tells in
    let Ports = g.D.Disk.ports_fail in
    let orders = c.args.orders.items in
    let index = c.args.index in
    let slots = c.args.slots.now.of.items in
    let was = held_by slots in
    let old = view_of c.args.engine.now.core in
    let new = view_of c.serve_caller-whole.new.engine.core in
    let next = c.serve_caller-whole.new.slots.held.items in
    let step = c.serve_caller-whole.ensures.served in
    let below = c.requires.within in
    let size = length-map slots (λ own. own.held.items) in
    let eight = c.requires.tens.eight in
    let here = seen_at (λ own. own.held.items) slots index c.index_mut.result.now (replicate 10 None) (omega (arith, below, size, eight)) c.index_mut.ensures.value in
    let of = of_caller index orders c.requires.alone in
    let fronts = fronts_alone index orders step.0 step.1 below of step.3 in
    let stretch = subst (λ held. IsStretch Tells Ports step.0 step.2 old held new next) here step.6 in
    let first = subst (λ l. IsPhaseOfAll Tells Ports [] l old was old was) (sym c.in-Ok.ensures.items) (phase_none Tells Ports old was) in
    let own = part_is_own index orders step.0 step.1 (by_itself (suc index) orders of ∙ step.3) in
    let phase = phase_more Tells Ports [] step.0 c.in-Ok.lines.items step.2 old old new was was next index (omega (arith, below, eight)) own first stretch in
    let set : held_by (slice_set slots index c.serve_caller-whole.new.slots) ≡ slice_set was index next = map-set (λ own. own.held.items) slots index c.serve_caller-whole.new.slots in (
      step.0,
      fronts,
      (λ whole. all_alone orders step.0 fronts (sym (append-nil step.0) ∙ ap (λ l. step.0 ++ l) (sym (step.4 whole)) ∙ sym step.3)),
      subst (λ ls. IsPhaseOfAll Tells Ports step.0 ls old was new (held_by (slice_set slots index c.serve_caller-whole.new.slots))) (sym step.5)
          (subst (λ held. IsPhaseOfAll Tells Ports step.0 (c.in-Ok.lines.items ++ step.2) old was new held) (sym set) phase),
    )

pub returns-clause-tens : goal.returns-clause-tens
returns-clause-tens g c =
    let slots = c.args.slots.now.of.items in
    let index = c.args.index in
    let set = map-set (λ own. own.held.items) slots index c.serve_caller-whole.new.slots in
    subst AreTen (sym set) (ten_more (held_by slots) index c.serve_caller-whole.new.slots.held.items c.requires.tens c.serve_caller-whole.ensures.ten)

pub returns-clause-slotted : goal.returns-clause-slotted
returns-clause-slotted g c = λ whole caller.
    let orders = c.args.orders.items in
    let index = c.args.index in
    let slots = c.args.slots.now.of.items in
    let was = held_by slots in
    let next = c.serve_caller-whole.new.slots.held.items in
    let below = c.requires.within in
    let size = length-map slots (λ own. own.held.items) in
    let eight = c.requires.tens.eight in
    let here = seen_at (λ own. own.held.items) slots index c.index_mut.result.now (replicate 10 None) (omega (arith, below, size, eight)) c.index_mut.ensures.value in
    let of = of_caller index orders c.requires.alone in
    let set : held_by (slice_set slots index c.serve_caller-whole.new.slots) ≡ slice_set was index next = map-set (λ own. own.held.items) slots index c.serve_caller-whole.new.slots in
    elim (eqb_tells caller (suc index)) [
      | inl is ↦
          subst (λ caller. held_through (orders_by caller orders) (held_for caller was) ≡ Some (held_for caller (held_by (slice_set slots index c.serve_caller-whole.new.slots)))) (sym is.1)
          (ap (λ l. held_through l (held_for (suc index) was)) (by_itself (suc index) orders of) ∙ ap (λ held. held_through orders (held_in held)) (sym here) ∙ c.serve_caller-whole.ensures.slotted whole
          ∙ ap Some (sym (ap (held_for (suc index)) set ∙ held_same was index next (omega (arith, below, eight)))))
      | inr apart ↦
          ap (λ l. held_through l (held_for caller was)) (by_another (suc index) caller orders apart.1 of) ∙ ap Some (sym (ap (held_for caller) set ∙ held_other was index next caller apart.1))
    ]
