use Rattle.std.proofs.Common.{ap, ◌∙◌}
use Rattle.std.proofs.Common.{Vec, Global}
use Rattle.lethe_due.specs.declared.due_file.DueFile.{DueFile}
use Rattle.lethe_orders.proofs.Lists.{timed_more, timed_none}
use Rattle.lethe_orders.proofs.building.timed_files.Goals as goal
use Rattle.lethe_orders.proofs.building.timed_files.Goals.{in-Some+in_ok-push, in_default}

pub loop-file-preserved : goal.loop-file-preserved
loop-file-preserved c =
    let file = c.file-item.result in
    let place = c.loop-file.file-index in
    elim c.match-file.branch [
      | in-Some+in_ok-push w ↦
          ap (λ (order : Vec DueFile Global). order.items) w.order-is ∙ w.in_ok-push.ensures.items
          ∙ timed_more c.args.files.now place file w.in-Some.oldest c.loop-file.order.items c.loop-file-test.true c.file-item.is w.in-Some.is c.loop-file.invariant
      | in_default w ↦
          ap (λ (order : Vec DueFile Global). order.items) w.order-is
          ∙ timed_none c.args.files.now place file c.loop-file.order.items c.loop-file-test.true c.file-item.is w.in_default.is c.loop-file.invariant
    ]
