use Rattle.std.proofs.Common.{map, drop}
use Rattle.lethe_read.proofs.Following.{MayTake, all_added, all_awaited, all_given, begins, goes_on, item_taken, none_added}
use Rattle.lethe_read.proofs.scanning.push_files.Goals as goal
use Rattle.lethe_read.proofs.scanning.push_files.Goals.{then-not-joins_next+in_ok-push, else-not-joins_next}

pub loop-place-init : goal.loop-place-init
loop-place-init g c = none_added g.D.Disk c.args.lo.now c.args.hi.now (λ shared. shared.file.value) c.args.files.now c.args.parts.now.items c.new-run.result c.new-run.ensures.items

pub loop-place-preserved : goal.loop-place-preserved
loop-place-preserved g c =
    let files = c.args.files.now in
    let place = c.loop-place.place in
    let item = c.index-files-place.result in
    let old = c.args.parts.now.items in
    let ready : MayTake g.D.Disk c.args.lo.now c.args.hi.now item.file.value (map (λ shared. shared.file.value) (drop place files)) old c.if-not-joins_next.parts.items c.if-not-joins_next.run =
    elim c.if-not-joins_next.branch [
      | then-not-joins_next+in_ok-push w ↦
          rw (w.parts-is, w.run-is) (begins g.D.Disk c.args.lo.now c.args.hi.now item.file.value (map (λ shared. shared.file.value) (drop place files)) old c.loop-place.parts.items w.push.new.self.items
          c.loop-place.run w.replace-ended.result w.replace-ended.new.dest w.new.result w.replace-ended.ensures.value w.in_ok-push.ensures.items w.replace-ended.ensures.after w.new.ensures.items c.loop-place.invariant)
      | else-not-joins_next w ↦
          rw (w.parts-is, w.run-is) (goes_on g.D.Disk c.args.lo.now c.args.hi.now (λ shared. shared.file.value) files place item c.loop-place-test.true c.loop-place.auto.place c.index-files-place.is
          old c.loop-place.parts.items c.loop-place.run c.joins_next.result c.joins_next.ensures w.if-not-joins_next.false c.loop-place.invariant)
    ] in
    item_taken g.D.Disk c.args.lo.now c.args.hi.now (λ shared. shared.file.value) files place item c.loop-place-test.true c.loop-place.auto.place c.index-files-place.is old c.if-not-joins_next.parts.items c.if-not-joins_next.run
    c.file.result.now c.in_ok-cursor.field-0 c.push-in-loop-place.new.self c.file.ensures
    (record { sounds = c.in_ok-cursor.ensures.sound; between = c.in_ok-cursor.ensures.left; pages = c.in_ok-cursor.ensures.pages; told = c.in_ok-cursor.ensures.damages; gives = c.in_ok-cursor.ensures.gives })
    c.in_ok-push-2.ensures.items ready

pub returns-clause-awaits : goal.returns-clause-awaits
returns-clause-awaits g c =
    all_awaited g.D.Disk c.args.lo.now c.args.hi.now (λ shared. shared.file.value) c.args.files.now c.loop-place.place c.loop-place-test.false c.args.parts.now.items c.loop-place.parts.items c.push-2.new.self.items
    c.loop-place.run c.in_ok-push-3.ensures.items c.loop-place.invariant

pub returns-clause-adds : goal.returns-clause-adds
returns-clause-adds g c =
    all_added g.D.Disk c.args.lo.now c.args.hi.now (λ shared. shared.file.value) c.args.files.now c.loop-place.place c.loop-place-test.false c.args.parts.now.items c.loop-place.parts.items c.push-2.new.self.items
    c.loop-place.run c.in_ok-push-3.ensures.items c.loop-place.invariant

pub returns-clause-gives : goal.returns-clause-gives
returns-clause-gives g c =
    all_given g.D.Disk c.args.lo.now c.args.hi.now (λ shared. shared.file.value) c.args.files.now c.loop-place.place c.loop-place-test.false c.args.parts.now.items c.loop-place.parts.items c.push-2.new.self.items
    c.loop-place.run c.in_ok-push-3.ensures.items c.loop-place.invariant
