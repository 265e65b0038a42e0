use Rattle.std.proofs.Common.{rules, ◌≡◌, ◌++◌, ◌∷◌, [], cond, sym, ap, subst, ◌∙◌, arith}
use mathlib.Core.Bool.{false≢true}
use Rattle.std.specs.Prelude.{IsTrue, is_ok}
use Rattle.lethe_core.specs.View.{view_of}
use Rattle.lethe_run.specs.Rows.{IsStretch, orders_of}
use Rattle.lethe_run.proofs.Rows.{pushed_behind, row_begins, row_longer, row_refused, row_then, waits_behind}
use Rattle.lethe_run.proofs.row.serve_order.Goals as goal

pub returns-then-caller-queue-clause-served : goal.returns-then-caller-queue-clause-served
returns-then-caller-queue-clause-served g c =
    let caller = c.args.queue.now.caller in
    let changes = c.args.queue.now.changes.items in
    let change = c.in-Ok.change in
    let by : c.args.order.caller ≡ caller = omega arith in
    let pushed = pushed_behind changes c.push_back.new.self.items change (is_ok c.push_back.result) c.is_ok.result c.push_back.ensures.items c.is_ok.ensures.value in
    row_longer g.D.Disk.tells g.D.Disk.ports_fail caller changes c.args.order c.args.lines.now.items (view_of c.args.engine.now.core) c.args.slots.now.held.items (IsTrue c.is_ok.result) (orders_of caller c.push_back.new.self.items)
    (λ ok. waits_behind caller changes change c.args.order by c.in-Ok.ensures ∙ ap (orders_of caller) (sym (pushed ok)))

pub returns-then-not-serve_row-clause-served : goal.returns-then-not-serve_row-clause-served
returns-then-not-serve_row-clause-served g c =
    let row = c.serve_row.ensures.served in
    row_refused g.D.Disk.tells g.D.Disk.ports_fail c.args.queue.now.caller c.args.queue.now.changes.items c.args.order c.args.lines.now.items c.serve_row.new.lines.items
    (view_of c.args.engine.now.core) c.args.slots.now.held.items (view_of c.serve_row.new.engine.core) c.serve_row.new.slots.held.items row.0 _ _ (λ is. false≢true is) row.2

pub returns-then-not-serve_row-2-clause-served : goal.returns-then-not-serve_row-2-clause-served
returns-then-not-serve_row-2-clause-served g c =
    let row = c.serve_row-in-Err.ensures.served in
    row_refused g.D.Disk.tells g.D.Disk.ports_fail c.args.queue.now.caller c.args.queue.now.changes.items c.args.order c.args.lines.now.items c.serve_row-in-Err.new.lines.items
    (view_of c.args.engine.now.core) c.args.slots.now.held.items (view_of c.serve_row-in-Err.new.engine.core) c.serve_row-in-Err.new.slots.held.items row.0 _ _ (λ is. false≢true is) row.2

pub returns-else-not-serve_row-clause-served : goal.returns-else-not-serve_row-clause-served
returns-else-not-serve_row-clause-served g c =
    let row = c.serve_row.ensures.served in
    let change = c.in-Ok.change in
    let caller = c.get-caller.result in
    let by : c.args.order.caller ≡ caller = sym c.get-caller.ensures.number in
    let left = c.serve_row.new.queue.changes.items in
    let none : left ≡ [] = c.serve_row.ensures.empty (search rules) in
    let pushed = pushed_behind left c.push_back-in-Ok.new.self.items change (is_ok c.push_back-in-Ok.result) c.is_ok-in-Ok.result c.push_back-in-Ok.ensures.items c.is_ok-in-Ok.ensures.value in
    row_begins g.D.Disk.tells g.D.Disk.ports_fail c.args.queue.now.caller c.args.queue.now.changes.items c.args.order c.args.lines.now.items c.serve_row.new.lines.items
    (view_of c.args.engine.now.core) c.args.slots.now.held.items (view_of c.serve_row.new.engine.core) c.serve_row.new.slots.held.items row.0 (IsTrue c.is_ok-in-Ok.result) (orders_of caller c.push_back-in-Ok.new.self.items)
    (row.1 (search rules)) (λ ok. waits_behind caller [] change c.args.order by c.in-Ok.ensures ∙ ap (orders_of caller) (sym (pushed ok ∙ ap (λ l. l ++ change ∷ []) none))) row.2

pub returns-else-not-serve_row-2-clause-served : goal.returns-else-not-serve_row-2-clause-served
returns-else-not-serve_row-2-clause-served g c =
    let row = c.serve_row-in-Err.ensures.served in
    let act = c.serve_act.ensures.served in
    let waiting = c.serve_row-in-Err.new.queue in
    row_then g.D.Disk.tells g.D.Disk.ports_fail c.args.queue.now.caller c.args.queue.now.changes.items c.args.order c.in-Err.act (sym c.in-Err.ensures.0)
    c.args.lines.now.items c.serve_row-in-Err.new.lines.items c.serve_act.new.lines.items (view_of c.args.engine.now.core) (view_of c.serve_row-in-Err.new.engine.core) (view_of c.serve_act.new.engine.core)
    c.args.slots.now.held.items c.serve_row-in-Err.new.slots.held.items c.serve_act.new.slots.held.items row.0 c.serve_act.result (orders_of waiting.caller waiting.changes.items)
    (row.1 (search rules)) (ap (orders_of waiting.caller) (c.serve_row-in-Err.ensures.empty (search rules))) row.2 act.0 act.1
    (subst (λ caller. IsStretch g.D.Disk.tells g.D.Disk.ports_fail (cond c.serve_act.result (record { line = 0; caller = caller; act = c.in-Err.act } ∷ []) []) act.0 (view_of c.serve_row-in-Err.new.engine.core)
    c.serve_row-in-Err.new.slots.held.items (view_of c.serve_act.new.engine.core) c.serve_act.new.slots.held.items) c.get-caller.ensures.number act.2)
