use Rattle.std.proofs.Common.{◌↔◌, Contains, List, get_or, subst, arith}
use Rattle.std.proofs.lemmas.List.{take_all}
use Rattle.lethe_due.specs.declared.due_file.DueFile.{DueFile}
use Rattle.lethe_orders.proofs.Lists.{link_more, none_in_order, none_linked, not_yet, same_read}
use Rattle.lethe_orders.proofs.building.link_all.Goals as goal

pub loop-file-init : goal.loop-file-init
loop-file-init g c = record {
  same = none_linked c.args.order.now c.args.list.now.files c.requires.empty;
  order = none_in_order c.args.list.now.files c.requires.empty;
  room = omega (arith, c.requires.room);
}

pub link-requires-clause-room : goal.link-requires-clause-room
link-requires-clause-room g c = omega (arith, c.loop-file.invariant.room, c.loop-file-test.true)

pub link-requires-clause-other : goal.link-requires-clause-other
link-requires-clause-other g c =
    let place = c.loop-file.file-index in
    let file : DueFile = get_or c.args.order.now place (record { no = 0; oldest = 0 }) in
    not_yet c.args.order.now c.loop-file.list.files place file c.loop-file-test.true (same_read c.args.order.now place (record { no = 0; oldest = 0 }) c.loop-file-test.true) c.requires.apart
    c.loop-file.invariant.same

pub loop-file-preserved : goal.loop-file-preserved
loop-file-preserved g c =
    let place = c.loop-file.file-index in
    let file : DueFile = get_or c.args.order.now place (record { no = 0; oldest = 0 }) in
    record {
      same = link_more c.args.order.now c.loop-file.list.files c.link.new.self.files place file c.loop-file-test.true
          (same_read c.args.order.now place (record { no = 0; oldest = 0 }) c.loop-file-test.true) c.link.ensures.with c.loop-file.invariant.same;
      order = c.link.ensures.order;
      room = omega (arith, c.loop-file.invariant.room, c.link.ensures.spare);
    }

pub returns-clause-same : goal.returns-clause-same
returns-clause-same g c =
    subst (λ (l : List DueFile). (x : DueFile) → Contains c.loop-file.list.files x ↔ Contains l x) (take_all c.loop-file.file-index c.args.order.now c.loop-file-test.false) c.loop-file.invariant.same
