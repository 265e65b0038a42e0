use Rattle.std.proofs.Common.{rules, ◌≡◌, ◌-◌, ◌∷◌, ◌++◌, ℕ, [], None, Some, refl, sym, ap, ◌∙◌, arith}
use mathlib.Core.Bool.{false≢true}
use Rattle.lethe_base.specs.declared.refused.Refused.TheVariants as refused
use Rattle.lethe_core.specs.View.{view_of}
use Rattle.lethe_run.specs.declared.reply.Line.TheVariants.{Answer}
use Rattle.lethe_run.specs.declared.reply.Reply.TheVariants as reply
use Rattle.lethe_run.specs.Rows.{done_lines, stopped_lines}
use Rattle.lethe_run.proofs.Rows.{row_fault, row_size, row_still, row_unfailed, row_whole, runs_so, unfailed}
use Rattle.lethe_run.proofs.row.make_row.Goals as goal

pub returns-then-is_some-clause-made : goal.returns-then-is_some-clause-made
returns-then-is_some-clause-made g c =
    (c.args.row.now.items, (λ is. refl), row_still g.D.Disk.tells g.D.Disk.ports_fail c.args.caller c.args.row.now.items c.args.lines.now.items (view_of c.args.engine.now.core))

pub returns-in_default-clause-made : goal.returns-in_default-clause-made
returns-in_default-clause-made g c =
    let old = view_of c.args.engine.now.core in
    let new = view_of c.change_row-done.new.self.core in
    let changes = c.args.row.now.items in
    let left = c.change_row-done.new.asked.items in
    let done = c.change_row-done.result.done in
    let why = c.change_row-done.result.refused in
    let is = c.change_row-done.ensures.answers in
    let before = c.args.lines.now.items in
    let behind = c.push_done.new.lines.items in
    let runs = runs_so c.stopped.result old.state.stopped c.is_some.result c.stopped.ensures c.is_some.ensures c.if-is_some.false in
    let pushed : behind ≡ before ++ done_lines c.args.caller old.state.count done = c.push_done.ensures.lines ∙ ap (λ n. before ++ done_lines c.args.caller n done) c.count-count.ensures in (
      is.row.rest,
      (λ all. row_whole g.D.Disk.tells g.D.Disk.ports_fail c.args.caller changes left done why old new is c.change_row-done.ensures.pins runs before behind c.in_default.is),
      row_unfailed g.D.Disk.tells g.D.Disk.ports_fail c.args.caller changes left done why old new is c.change_row-done.ensures.pins runs before behind
          (λ place faults now failed. let clash : None ≡ Some (refused.Fault place faults now) = sym c.in_default.is ∙ failed in cc) pushed,
    )

pub returns-in_default-why : goal.returns-in_default-why
returns-in_default-why g c =
    let old = view_of c.args.engine.now.core in
    let new = view_of c.change_row-done.new.self.core in
    let changes = c.args.row.now.items in
    let left = c.change_row-done.new.asked.items in
    let done = c.change_row-done.result.done in
    let why = c.change_row-done.result.refused in
    let is = c.change_row-done.ensures.answers in
    let before = c.args.lines.now.items in
    let behind = c.push_done.new.lines.items in
    let runs = runs_so c.stopped.result old.state.stopped c.is_some.result c.stopped.ensures c.is_some.ensures c.if-is_some.false in
    let pushed : behind ≡ before ++ done_lines c.args.caller old.state.count done = c.push_done.ensures.lines ∙ ap (λ n. before ++ done_lines c.args.caller n done) c.count-count.ensures in
    let never : (place faults now : ℕ) → why ≡ Some (refused.Fault place faults now) → ⊥ =
    λ place faults now failed. let same : c.in-Some.why ≡ refused.Fault place faults now = cc in c.in_default-why.not-Fault place faults now same in
    let fewer = (unfailed why is.row.rest left is.row.failed old new is.row.ended never).1 in
    let size = row_size g.D.Disk.tells changes left done why old new is in
    let len = c.push_done.ensures.len in
    record {
      sound = is.row.sound;
      made = (
        is.row.rest,
        (λ all. absurd (false≢true all)),
        row_unfailed g.D.Disk.tells g.D.Disk.ports_fail c.args.caller changes left done why old new is c.change_row-done.ensures.pins runs before behind never pushed,
      );
      fewer = omega (arith, fewer, size);
      room = omega (arith, fewer, size, len);
      capacity = c.push_done.ensures.capacity;
    }

pub returns-clause-made : goal.returns-clause-made
returns-clause-made g c =
    let old = view_of c.args.engine.now.core in
    let new = view_of c.change_row-done.new.self.core in
    let changes = c.args.row.now.items in
    let left = c.change_row-done.new.asked.items in
    let done = c.change_row-done.result.done in
    let why = c.change_row-done.result.refused in
    let is = c.change_row-done.ensures.answers in
    let before = c.args.lines.now.items in
    let place = c.in-Fault.place in
    let runs = runs_so c.stopped.result old.state.stopped c.is_some.result c.stopped.ensures c.is_some.ensures c.if-is_some.false in
    let dones : c.push_done.new.lines.items ≡ before ++ done_lines c.args.caller old.state.count done = c.push_done.ensures.lines ∙ ap (λ n. before ++ done_lines c.args.caller n done) c.count-count.ensures in
    let line = Answer c.args.caller (reply.Fault place c.in-Fault.before c.in-Fault.after) in
    let many = c.len-asked.result - done - 1 in
    let fault : c.push.new.self.items ≡ c.push_done.new.lines.items ++ line ∷ [] = search rules in (
      [],
      (λ all. sym c.clear.ensures.items),
      row_fault g.D.Disk.tells g.D.Disk.ports_fail c.args.caller changes left done why old new is c.change_row-done.ensures.pins runs before c.push_stopped.new.lines.items place c.in-Fault.before c.in-Fault.after many
          (c.in-Some.is ∙ ap Some c.in-Fault.is) (ap (λ n. n - done - 1) (c.len-asked.ensures ∙ c.args.row.now.ok.0))
          (c.push_stopped.ensures.lines ∙ ap (λ l. l ++ stopped_lines c.args.caller place many) (fault ∙ ap (λ l. l ++ line ∷ []) dones)),
    )
