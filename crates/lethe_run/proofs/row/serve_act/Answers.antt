use Rattle.std.proofs.Common.{rules, ◌≡◌, ◌++◌, ◌∷◌, [], sym, append-nil}
use Rattle.lethe_core.specs.View.{view_of}
use Rattle.lethe_script.specs.declared.order.Order.{Order}
use Rattle.lethe_run.specs.declared.reply.Line.TheVariants.{Answer}
use Rattle.lethe_run.proofs.Rows.{stretch_one, stretch_still}
use Rattle.lethe_run.proofs.row.serve_act.Goals as goal

pub returns-in-Ok-clause-served : goal.returns-in-Ok-clause-served
returns-in-Ok-clause-served g c =
    let caller = c.args.caller in
    let reply = c.in-Ok.reply in
    let order : Order = record { line = 0; caller = caller; act = c.args.act } in
    let pushed : c.push.new.self.items ≡ c.args.lines.now.items ++ Answer caller reply ∷ [] = search rules in (
      Answer caller reply ∷ [],
      pushed,
      stretch_one g.D.Disk.tells g.D.Disk.ports_fail order reply (view_of c.args.engine.now.core) (view_of c.answer.new.engine.core) c.args.slots.now.held.items c.answer.new.slots.held.items
          c.answer.ensures.faults c.in-Ok.ensures.told c.in-Ok.ensures.slots (λ told begin from h on shown. c.in-Ok.ensures.served told begin from h caller on shown) c.answer.ensures.shown,
    )

pub returns-in-Err-clause-served : goal.returns-in-Err-clause-served
returns-in-Err-clause-served g c = (
  [],
  sym (append-nil c.args.lines.now.items),
  stretch_still g.D.Disk.tells g.D.Disk.ports_fail (view_of c.args.engine.now.core) (view_of c.answer.new.engine.core) c.args.slots.now.held.items c.answer.new.slots.held.items
      c.answer.ensures.faults c.in-Err.ensures.told c.in-Err.ensures.slots (λ told begin from h on shown. c.in-Err.ensures.served told begin from h c.args.caller on shown) c.answer.ensures.shown,
)
