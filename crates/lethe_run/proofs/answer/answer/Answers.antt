use Rattle.std.proofs.Common.{◌≡◌, inl, Err, Some, refl, sym, ap, ◌∙◌, subst, arith}
use Rattle.std.specs.Prelude.{IsSome, is_some}
use Rattle.lethe_base.specs.declared.call.Call.TheVariants as calls
use Rattle.lethe_base.specs.History.{History, after}
use Rattle.lethe_base.specs.Read.{answer}
use Rattle.lethe_base.specs.Read as answers
use Rattle.lethe_pins.specs.Held.{Held}
use Rattle.lethe_core.specs.View.{Face, view_of}
use Rattle.lethe_core.specs.Merges.{due_choice}
use Rattle.lethe_core.proofs.Short.{chosen_are_short, merges_are_short}
use Rattle.lethe_read.specs.Refusals.{IsReadRefusal}
use Rattle.lethe_engine.specs.Reads.{listed}
use Rattle.lethe_script.specs.Slots.{held_behind}
use Rattle.lethe_script.specs.declared.order.Act.TheVariants as acts
use Rattle.lethe_run.specs.declared.reply.Reply.{Reply}
use Rattle.lethe_run.specs.declared.reply.Reply.TheVariants as reply
use Rattle.lethe_run.specs.Anywhere.{IsTold, standing_of}
use Rattle.lethe_run.specs.Carried.{Whole}
use Rattle.lethe_run.specs.Holding.{held_in, slots_of}
use Rattle.lethe_run.specs.Replies.{reply_of, tick_reply_of, unread_of}
use Rattle.lethe_run.specs.Serving.{IsAnswered, opened_in}
use Rattle.lethe_run.specs.Slots.{InSlots}
use Rattle.lethe_run.proofs.Anywhere.{Tells, change_tells, match_later, unread_tells}
use Rattle.lethe_run.proofs.Holding.{behind_held, finds_free, finds_held, on_ok, pin_at, shown_at}
use Rattle.lethe_run.proofs.Looks.{looked_up, reads, read_answer, stat_answer, unread}
use Rattle.lethe_run.proofs.Outcomes.{Outcome, ok_of, err_of, or_same}
use Rattle.lethe_run.proofs.Pins.{counted, same_pins}
use Rattle.lethe_run.proofs.Seen.{seen_here}
use Rattle.lethe_run.proofs.Shorts.{few_frozen}
use Rattle.lethe_run.proofs.Staying.{Stay, change_stays, or_kept, tick_stays, unread_stays}
use Rattle.lethe_run.proofs.Steps.{changes}
use Rattle.lethe_run.proofs.Ticking.{all_pass, forward_so, of_tick, tick_tells, ticks}
use Rattle.lethe_run.proofs.answer.answer.Goals as goal

pub returns-in-Put-clause-served : goal.returns-in-Put-clause-served
returns-in-Put-clause-served g c = λ told begin from h caller on shown.
    let old = view_of c.args.engine.now.core in
    let new = view_of c.put.new.self.core in
    let Tells = g.D.Disk.tells in
    let Ports = g.D.Disk.ports_fail in
    let act = acts.Put c.in-Put.key c.in-Put.dkey c.in-Put.value in
    let call = calls.Put c.in-Put.key c.in-Put.dkey c.in-Put.value in
    subst (λ r. Outcome Ports begin h caller c.args.act r old new) (sym c.changed.ensures)
    (subst (λ a. Outcome Ports begin h caller a (reply_of c.put.result) old new) (sym c.in-Put.is)
    (changes Tells Ports told begin from h caller act call refl refl old new on (few_frozen Tells old c.requires.sound) (merges_are_short Tells begin.config h new told)
    (g.D.Disk.port_faults c.args.port.now) (g.D.Disk.port_faults c.put.new.port) c.put.result c.put.ensures.answers c.put.ensures.place c.put.ensures.why))

pub returns-in-Put-clause-told : goal.returns-in-Put-clause-told
returns-in-Put-clause-told g c =
    let old = view_of c.args.engine.now.core in
    let new = view_of c.put.new.self.core in
    let Ports = g.D.Disk.ports_fail in
    let act = acts.Put c.in-Put.key c.in-Put.dkey c.in-Put.value in
    let call = calls.Put c.in-Put.key c.in-Put.dkey c.in-Put.value in
    let kept = same_pins old new c.put.ensures.pins in
    subst (λ r. Tells Ports c.args.act r old new) (sym c.changed.ensures)
    (subst (λ a. Tells Ports a (reply_of c.put.result) old new) (sym c.in-Put.is)
    (change_tells g.D.Disk.tells Ports act call refl refl old new (few_frozen g.D.Disk.tells old c.requires.sound) kept (g.D.Disk.port_faults c.args.port.now) (g.D.Disk.port_faults c.put.new.port) c.put.result c.put.ensures.answers c.put.ensures.place c.put.ensures.why
    (λ at was. (c.put.ensures.stopped at was).0)))

pub returns-in-Put-clause-slots : goal.returns-in-Put-clause-slots
returns-in-Put-clause-slots g c = let s = slots_of c.args.slots.now.held.items in subst (Stay c.args.act s) (sym c.changed.ensures) (change_stays c.args.act s c.put.result)

pub returns-in-Put-clause-made : goal.returns-in-Put-clause-made
returns-in-Put-clause-made g c = let same = ap (λ (face : Face). face.made) c.put.ensures.answers.face_is in omega (arith, same)

pub returns-in-Put-clause-slotted : goal.returns-in-Put-clause-slotted
returns-in-Put-clause-slotted g c =
    let held = held_in c.args.slots.now.held.items in
    on_ok c.changed.result (ap (λ act. held_behind act held) c.in-Put.is)

pub returns-in-Delete-clause-served : goal.returns-in-Delete-clause-served
returns-in-Delete-clause-served g c = λ told begin from h caller on shown.
    let old = view_of c.args.engine.now.core in
    let new = view_of c.delete.new.self.core in
    let Tells = g.D.Disk.tells in
    let Ports = g.D.Disk.ports_fail in
    let act = acts.Delete c.in-Delete.key in
    let call = calls.Delete c.in-Delete.key in
    subst (λ r. Outcome Ports begin h caller c.args.act r old new) (sym c.changed-in-Delete.ensures)
    (subst (λ a. Outcome Ports begin h caller a (reply_of c.delete.result) old new) (sym c.in-Delete.is)
    (changes Tells Ports told begin from h caller act call refl refl old new on (few_frozen Tells old c.requires.sound) (merges_are_short Tells begin.config h new told)
    (g.D.Disk.port_faults c.args.port.now) (g.D.Disk.port_faults c.delete.new.port) c.delete.result c.delete.ensures.answers c.delete.ensures.place c.delete.ensures.why))

pub returns-in-Delete-clause-told : goal.returns-in-Delete-clause-told
returns-in-Delete-clause-told g c =
    let old = view_of c.args.engine.now.core in
    let new = view_of c.delete.new.self.core in
    let Ports = g.D.Disk.ports_fail in
    let act = acts.Delete c.in-Delete.key in
    let call = calls.Delete c.in-Delete.key in
    let kept = same_pins old new c.delete.ensures.pins in
    subst (λ r. Tells Ports c.args.act r old new) (sym c.changed-in-Delete.ensures)
    (subst (λ a. Tells Ports a (reply_of c.delete.result) old new) (sym c.in-Delete.is)
    (change_tells g.D.Disk.tells Ports act call refl refl old new (few_frozen g.D.Disk.tells old c.requires.sound) kept (g.D.Disk.port_faults c.args.port.now) (g.D.Disk.port_faults c.delete.new.port) c.delete.result c.delete.ensures.answers c.delete.ensures.place c.delete.ensures.why
    (λ at was. (c.delete.ensures.stopped at was).0)))

pub returns-in-Delete-clause-slots : goal.returns-in-Delete-clause-slots
returns-in-Delete-clause-slots g c = let s = slots_of c.args.slots.now.held.items in subst (Stay c.args.act s) (sym c.changed-in-Delete.ensures) (change_stays c.args.act s c.delete.result)

pub returns-in-Delete-clause-made : goal.returns-in-Delete-clause-made
returns-in-Delete-clause-made g c = let same = ap (λ (face : Face). face.made) c.delete.ensures.answers.face_is in omega (arith, same)

pub returns-in-Delete-clause-slotted : goal.returns-in-Delete-clause-slotted
returns-in-Delete-clause-slotted g c =
    let held = held_in c.args.slots.now.held.items in
    on_ok c.changed-in-Delete.result (ap (λ act. held_behind act held) c.in-Delete.is)

pub returns-in-Erase-clause-served : goal.returns-in-Erase-clause-served
returns-in-Erase-clause-served g c = λ told begin from h caller on shown.
    let old = view_of c.args.engine.now.core in
    let new = view_of c.erase.new.self.core in
    let Tells = g.D.Disk.tells in
    let Ports = g.D.Disk.ports_fail in
    let act = acts.Erase c.in-Erase.range in
    let call = calls.Erase c.in-Erase.range in
    subst (λ r. Outcome Ports begin h caller c.args.act r old new) (sym c.changed-in-Erase.ensures)
    (subst (λ a. Outcome Ports begin h caller a (reply_of c.erase.result) old new) (sym c.in-Erase.is)
    (changes Tells Ports told begin from h caller act call refl refl old new on (few_frozen Tells old c.requires.sound) (merges_are_short Tells begin.config h new told)
    (g.D.Disk.port_faults c.args.port.now) (g.D.Disk.port_faults c.erase.new.port) c.erase.result c.erase.ensures.answers c.erase.ensures.place c.erase.ensures.why))

pub returns-in-Erase-clause-told : goal.returns-in-Erase-clause-told
returns-in-Erase-clause-told g c =
    let old = view_of c.args.engine.now.core in
    let new = view_of c.erase.new.self.core in
    let Ports = g.D.Disk.ports_fail in
    let act = acts.Erase c.in-Erase.range in
    let call = calls.Erase c.in-Erase.range in
    let kept = same_pins old new c.erase.ensures.pins in
    subst (λ r. Tells Ports c.args.act r old new) (sym c.changed-in-Erase.ensures)
    (subst (λ a. Tells Ports a (reply_of c.erase.result) old new) (sym c.in-Erase.is)
    (change_tells g.D.Disk.tells Ports act call refl refl old new (few_frozen g.D.Disk.tells old c.requires.sound) kept (g.D.Disk.port_faults c.args.port.now) (g.D.Disk.port_faults c.erase.new.port) c.erase.result c.erase.ensures.answers c.erase.ensures.place c.erase.ensures.why
    (λ at was. (c.erase.ensures.stopped at was).0)))

pub returns-in-Erase-clause-slots : goal.returns-in-Erase-clause-slots
returns-in-Erase-clause-slots g c = let s = slots_of c.args.slots.now.held.items in subst (Stay c.args.act s) (sym c.changed-in-Erase.ensures) (change_stays c.args.act s c.erase.result)

pub returns-in-Erase-clause-made : goal.returns-in-Erase-clause-made
returns-in-Erase-clause-made g c = let same = ap (λ (face : Face). face.made) c.erase.ensures.answers.face_is in omega (arith, same)

pub returns-in-Erase-clause-slotted : goal.returns-in-Erase-clause-slotted
returns-in-Erase-clause-slotted g c =
    let held = held_in c.args.slots.now.held.items in
    on_ok c.changed-in-Erase.result (ap (λ act. held_behind act held) c.in-Erase.is)

pub returns-in-Ok-clause-served : goal.returns-in-Ok-clause-served
returns-in-Ok-clause-served g c = λ told begin from h caller on shown.
    let view = view_of c.args.engine.now.core in
    let Ports = g.D.Disk.ports_fail in
    let key = c.in-Get.key in
    let r = reply.Got c.count.result c.in-Ok.held in
    let given = ok_of (λ held. answer (after h) (answers.Get key) ≡ answers.Found held) c.get.result (c.get.ensures.answer told begin.config h on.stands.now) c.in-Ok.held c.in-Ok.is in
    subst (λ a. (k : History) × IsAnswered Ports begin h k caller a r view view) (sym c.in-Get.is)
    (reads Ports begin from h caller (acts.Get key) view on r tt tt
    (read_answer Ports begin from h caller (acts.Get key) view on (answers.Get key) c.count.result (answers.Found c.in-Ok.held) c.count.ensures given) (c.count.ensures ∙ on.stands.now.count, refl))

pub returns-in-Get-clause-served : goal.returns-in-Get-clause-served
returns-in-Get-clause-served g c = λ told begin from h caller on shown.
    let view = view_of c.args.engine.now.core in
    let Ports = g.D.Disk.ports_fail in
    let why = c.in-Err.why in
    subst (λ r. Outcome Ports begin h caller c.args.act r view view) (sym c.unread.ensures)
    (subst (λ a. Outcome Ports begin h caller a (unread_of why) view view) (sym c.in-Get.is)
    (unread Ports begin from h caller (acts.Get c.in-Get.key) view on (inl refl) why (err_of IsReadRefusal c.get.result c.get.ensures.why why c.in-Err.is)
    (λ before behind is. c.get.ensures.can_fail before behind (c.in-Err.is ∙ ap Err is)) (λ name is. c.get.ensures.undamaged told c.requires.sound name (c.in-Err.is ∙ ap Err is))))

pub returns-in-Ok-clause-told : goal.returns-in-Ok-clause-told
returns-in-Ok-clause-told g c =
    let view = view_of c.args.engine.now.core in
    subst (λ act. IsTold g.D.Disk.ports_fail view.faults view.faults act (standing_of view) (reply.Got c.count.result c.in-Ok.held) (standing_of view)) (sym c.in-Get.is)
    (((c.in-Get.key, refl), c.count.ensures, refl), refl, omega arith)

pub returns-in-Get-clause-told : goal.returns-in-Get-clause-told
returns-in-Get-clause-told g c =
    let view = view_of c.args.engine.now.core in
    let Ports = g.D.Disk.ports_fail in
    let why = c.in-Err.why in
    subst (λ r. Tells Ports c.args.act r view view) (sym c.unread.ensures)
    (subst (λ a. Tells Ports a (unread_of why) view view) (sym c.in-Get.is)
    (unread_tells Ports (acts.Get c.in-Get.key) view (inl refl) why (err_of IsReadRefusal c.get.result c.get.ensures.why why c.in-Err.is) (λ before after is. c.get.ensures.can_fail before after (c.in-Err.is ∙ ap Err is))))

pub returns-in-Ok-scan-clause-served : goal.returns-in-Ok-scan-clause-served
returns-in-Ok-scan-clause-served g c = λ told begin from h caller on shown.
    let view = view_of c.args.engine.now.core in
    let Ports = g.D.Disk.ports_fail in
    let lo = c.in-Scan.lo in
    let hi = c.in-Scan.hi in
    let point = c.count-in-Ok-scan.result in
    let pairs = c.of.result in
    let given : answer (after h) (answers.Scan lo hi) ≡ listed pairs =
    ok_of (λ found. answer (after h) (answers.Scan lo hi) ≡ listed found.items) c.scan.result (c.scan.ensures.answer told begin.config h on.stands.now) c.in-Ok-scan.pairs c.in-Ok-scan.is ∙ ap listed (sym c.of.ensures) in
    subst (λ a. (k : History) × IsAnswered Ports begin h k caller a (reply.Scanned point pairs) view view) (sym c.in-Scan.is)
    (reads Ports begin from h caller (acts.Scan lo hi) view on (reply.Scanned point pairs) tt tt
    (read_answer Ports begin from h caller (acts.Scan lo hi) view on (answers.Scan lo hi) point (listed pairs) c.count-in-Ok-scan.ensures given) (c.count-in-Ok-scan.ensures ∙ on.stands.now.count, refl))

pub returns-in-Scan-clause-served : goal.returns-in-Scan-clause-served
returns-in-Scan-clause-served g c = λ told begin from h caller on shown.
    let view = view_of c.args.engine.now.core in
    let Ports = g.D.Disk.ports_fail in
    let why = c.in-Err-scan.why in
    subst (λ r. Outcome Ports begin h caller c.args.act r view view) (sym c.unread-in-Err-scan.ensures)
    (subst (λ a. Outcome Ports begin h caller a (unread_of why) view view) (sym c.in-Scan.is)
    (unread Ports begin from h caller (acts.Scan c.in-Scan.lo c.in-Scan.hi) view on (inl refl) why (err_of IsReadRefusal c.scan.result c.scan.ensures.why why c.in-Err-scan.is)
    (λ before behind is. c.scan.ensures.can_fail before behind (c.in-Err-scan.is ∙ ap Err is)) (λ name is. c.scan.ensures.undamaged told c.requires.sound name (c.in-Err-scan.is ∙ ap Err is))))

pub returns-in-Ok-scan-clause-told : goal.returns-in-Ok-scan-clause-told
returns-in-Ok-scan-clause-told g c =
    let view = view_of c.args.engine.now.core in
    subst (λ act. IsTold g.D.Disk.ports_fail view.faults view.faults act (standing_of view) (reply.Scanned c.count-in-Ok-scan.result c.of.result) (standing_of view)) (sym c.in-Scan.is)
    (((c.in-Scan.lo, c.in-Scan.hi, refl), c.count-in-Ok-scan.ensures, refl), refl, omega arith)

pub returns-in-Scan-clause-told : goal.returns-in-Scan-clause-told
returns-in-Scan-clause-told g c =
    let view = view_of c.args.engine.now.core in
    let Ports = g.D.Disk.ports_fail in
    let why = c.in-Err-scan.why in
    subst (λ r. Tells Ports c.args.act r view view) (sym c.unread-in-Err-scan.ensures)
    (subst (λ a. Tells Ports a (unread_of why) view view) (sym c.in-Scan.is)
    (unread_tells Ports (acts.Scan c.in-Scan.lo c.in-Scan.hi) view (inl refl) why (err_of IsReadRefusal c.scan.result c.scan.ensures.why why c.in-Err-scan.is) (λ before after is. c.scan.ensures.can_fail before after (c.in-Err-scan.is ∙ ap Err is))))

pub returns-in-Ok-clause-slotted : goal.returns-in-Ok-clause-slotted
returns-in-Ok-clause-slotted g c = ap (λ act. held_behind act (held_in c.args.slots.now.held.items)) c.in-Get.is

pub returns-in-Get-clause-slotted : goal.returns-in-Get-clause-slotted
returns-in-Get-clause-slotted g c =
    let held = held_in c.args.slots.now.held.items in
    on_ok c.unread.result (ap (λ act. held_behind act held) c.in-Get.is)

pub returns-in-Ok-scan-clause-slotted : goal.returns-in-Ok-scan-clause-slotted
returns-in-Ok-scan-clause-slotted g c = ap (λ act. held_behind act (held_in c.args.slots.now.held.items)) c.in-Scan.is

pub returns-in-Scan-clause-slotted : goal.returns-in-Scan-clause-slotted
returns-in-Scan-clause-slotted g c =
    let held = held_in c.args.slots.now.held.items in
    on_ok c.unread-in-Err-scan.result (ap (λ act. held_behind act held) c.in-Scan.is)

pub returns-in-Stat-clause-slotted : goal.returns-in-Stat-clause-slotted
returns-in-Stat-clause-slotted g c = ap (λ act. held_behind act (held_in c.args.slots.now.held.items)) c.in-Stat.is

pub returns-in-Stat-clause-served : goal.returns-in-Stat-clause-served
returns-in-Stat-clause-served g c = λ told begin from h caller on shown.
    let laws = g.met.D.Disk g.world.𝓛 g.world.𝓜 g.world.𝓡 ((λ s x. x), (λ x. x), (λ x. x), λ x. x) in
    let view = view_of c.args.engine.now.core in
    let Ports = g.D.Disk.ports_fail in
    let point = c.count-in-Stat.result in
    let stat = c.stat.result in
    subst (λ a. (k : History) × IsAnswered Ports begin h k caller a (reply.Counted point stat) view view) (sym c.in-Stat.is)
    (reads Ports begin from h caller acts.Stat view on (reply.Counted point stat) tt (seen_here begin from h view on (laws.itself told c.args.engine.now.core.disk) point c.count-in-Stat.ensures (Whole stat) c.stat.ensures.shape)
    (refl, stat_answer Ports begin from h caller acts.Stat view on point stat c.count-in-Stat.ensures (c.stat.ensures.stat begin.config h on.stands.now) c.stat.ensures.shape) (c.count-in-Stat.ensures ∙ on.stands.now.count, refl))

pub returns-in-Stat-clause-told : goal.returns-in-Stat-clause-told
returns-in-Stat-clause-told g c =
    let view = view_of c.args.engine.now.core in
    subst (λ act. IsTold g.D.Disk.ports_fail view.faults view.faults act (standing_of view) (reply.Counted c.count-in-Stat.result c.stat.result) (standing_of view)) (sym c.in-Stat.is)
    ((refl, c.count-in-Stat.ensures, c.stat.ensures.clock, refl), (c.stat.ensures.pins ∙ counted view, refl), omega arith)

pub returns-in-Tick-clause-served : goal.returns-in-Tick-clause-served
returns-in-Tick-clause-served g c = λ told begin from h caller on shown.
    let old = view_of c.args.engine.now.core in
    let new = view_of c.tick.new.self.core in
    let Tells = g.D.Disk.tells in
    let Ports = g.D.Disk.ports_fail in
    let to = c.get-in-Tick.result in
    let opened = opened_in begin from on.counted in
    let result = c.tick.result in
    subst (λ r. Outcome Ports begin h caller c.args.act r old new) (sym c.ticked.ensures)
    (subst (λ a. Outcome Ports begin h caller a (tick_reply_of c.count-point.result result) old new) (sym (c.in-Tick.is ∙ ap acts.Tick (sym c.get-in-Tick.ensures.number)))
    (ticks to old new Tells Ports told begin from h caller on c.requires.rounds (few_frozen Tells new c.tick.ensures.answers.sound) (chosen_are_short (due_choice to) Tells begin.config h new told)
    c.count-point.result c.count-point.ensures (g.D.Disk.port_faults c.args.port.now) (g.D.Disk.port_faults c.tick.new.port) result c.tick.ensures.answers c.tick.ensures.place (c.tick.ensures.one_image told) c.tick.ensures.due
    (c.tick.ensures.is_true told begin.config opened h on.stands caller) c.tick.ensures.why (λ at was. (c.tick.ensures.stopped at was).0)))

pub returns-in-Tick-clause-told : goal.returns-in-Tick-clause-told
returns-in-Tick-clause-told g c =
    let old = view_of c.args.engine.now.core in
    let new = view_of c.tick.new.self.core in
    let Ports = g.D.Disk.ports_fail in
    let to = c.get-in-Tick.result in
    let kept = same_pins old new c.tick.ensures.pins in
    subst (λ r. Tells Ports c.args.act r old new) (sym c.ticked.ensures)
    (subst (λ a. Tells Ports a (tick_reply_of c.count-point.result c.tick.result) old new) (sym (c.in-Tick.is ∙ ap acts.Tick (sym c.get-in-Tick.ensures.number)))
    (tick_tells to old new g.D.Disk.tells Ports c.count-point.result c.count-point.ensures kept c.requires.sound.pins (g.D.Disk.port_faults c.args.port.now) (g.D.Disk.port_faults c.tick.new.port) c.tick.result
    (all_pass to old new c.requires.sound.pins c.requires.sound.writable.count c.requires.rounds c.tick.result (λ at was. (c.tick.ensures.stopped at was).0) (λ runs ahead. (c.tick.ensures.backwards runs ahead).0)
    (λ runs forward full. (c.tick.ensures.exhausted runs forward full).0) (λ may pin limit first reached. (c.tick.ensures.pinned may pin limit first reached).0))
    (forward_so to old new c.tick.result (λ at was. (c.tick.ensures.stopped at was).0) (λ runs ahead. (c.tick.ensures.backwards runs ahead).0)) c.tick.ensures.due _ c.tick.ensures.certificate
    c.tick.ensures.answers c.tick.ensures.place c.requires.rounds (few_frozen g.D.Disk.tells new c.tick.ensures.answers.sound) (λ runs ahead. λ i. view_of ((c.tick.ensures.backwards runs ahead).1 i).core)
    (λ may pin limit first reached. λ i. view_of ((c.tick.ensures.pinned may pin limit first reached).1 i).core) c.tick.ensures.why (λ at was. (c.tick.ensures.stopped at was).0)))

pub returns-in-Tick-clause-slots : goal.returns-in-Tick-clause-slots
returns-in-Tick-clause-slots g c = let s = slots_of c.args.slots.now.held.items in subst (Stay c.args.act s) (sym c.ticked.ensures) (tick_stays c.args.act s c.count-point.result c.tick.result)

pub returns-in-Get-clause-slots : goal.returns-in-Get-clause-slots
returns-in-Get-clause-slots g c = let s = slots_of c.args.slots.now.held.items in subst (Stay c.args.act s) (sym c.unread.ensures) (unread_stays c.args.act s c.in-Err.why)

pub returns-in-Scan-clause-slots : goal.returns-in-Scan-clause-slots
returns-in-Scan-clause-slots g c = let s = slots_of c.args.slots.now.held.items in subst (Stay c.args.act s) (sym c.unread-in-Err-scan.ensures) (unread_stays c.args.act s c.in-Err-scan.why)

pub returns-in-Tick-clause-made : goal.returns-in-Tick-clause-made
returns-in-Tick-clause-made g c =
    let old = view_of c.args.engine.now.core in
    let new = view_of c.tick.new.self.core in
    let same = ap (λ (pins : Held). pins.made) c.tick.ensures.pins in
    omega (arith, same)

pub returns-in-Tick-clause-slotted : goal.returns-in-Tick-clause-slotted
returns-in-Tick-clause-slotted g c =
    let held = held_in c.args.slots.now.held.items in
    on_ok c.ticked.result (ap (λ act. held_behind act held) c.in-Tick.is)

pub ticked-requires : goal.ticked-requires
ticked-requires g c =
    let old = view_of c.args.engine.now.core in
    let new = view_of c.tick.new.self.core in
    of_tick g.D.Disk.tells g.D.Disk.ports_fail c.get-in-Tick.result old new (g.D.Disk.port_faults c.args.port.now) (g.D.Disk.port_faults c.tick.new.port) c.tick.result c.tick.ensures.why

pub pin-requires-clause-free : goal.pin-requires-clause-free
pin-requires-clause-free g c κs within = finds_free c.args.slots.now.held.items c.in-Pin.slot _ (subst (λ act. IsSome (held_behind act (held_in c.args.slots.now.held.items))) c.in-Pin.is c.requires.slotted)

pub returns-in-Pin-clause-told : goal.returns-in-Pin-clause-told
returns-in-Pin-clause-told g c =
    let old = view_of c.args.engine.now.core in
    let new = view_of c.pin.new.engine.core in
    let s = standing_of old in
    let t = standing_of new in
    rw c.in-Pin.is (match_later (λ reply. IsTold g.D.Disk.ports_fail old.faults new.faults (acts.Pin c.in-Pin.slot) s reply t) c.pin.result s t c.pin.ensures.told)

pub returns-in-Pin-clause-slots : goal.returns-in-Pin-clause-slots
returns-in-Pin-clause-slots g c = rw c.in-Pin.is c.pin.ensures.slots

pub returns-in-Pin-clause-served : goal.returns-in-Pin-clause-served
returns-in-Pin-clause-served g c = λ told begin from h caller on shown. rw c.in-Pin.is (c.pin.ensures.served told begin from h caller on)

pub returns-in-Pin-clause-slotted : goal.returns-in-Pin-clause-slotted
returns-in-Pin-clause-slotted g c = rw c.in-Pin.is c.pin.ensures.slotted

pub snapshot-requires-clause-held : goal.snapshot-requires-clause-held
snapshot-requires-clause-held g c κs within = finds_held c.args.slots.now.held.items c.in-PinGet.slot _ (subst (λ act. IsSome (held_behind act (held_in c.args.slots.now.held.items))) c.in-PinGet.is c.requires.slotted)

pub returns-in-PinGet-clause-told : goal.returns-in-PinGet-clause-told
returns-in-PinGet-clause-told g c =
    let view = view_of c.args.engine.now.core in
    let s = standing_of view in
    let told = c.pin_get.ensures.told view.faults view.faults s c.in-PinGet.slot in
    let Is = λ (reply : Reply). IsTold g.D.Disk.ports_fail view.faults view.faults (acts.PinGet c.in-PinGet.slot c.in-PinGet.key) s reply s in
    rw c.in-PinGet.is (match_later Is c.pin_get.result s s (or_same Is c.pin_get.result s told))

pub returns-in-PinGet-clause-slots : goal.returns-in-PinGet-clause-slots
returns-in-PinGet-clause-slots g c =
    let held = c.args.slots.now.held.items in
    let slots = slots_of held in
    let slot = c.in-PinGet.slot in
    let Is = λ (reply : Reply). InSlots (acts.PinGet c.in-PinGet.slot c.in-PinGet.key) reply slots slots in
    rw c.in-PinGet.is (or_kept Is slots c.pin_get.result (c.pin_get.ensures.slots slots slot (pin_at held slot (Some c.snapshot.result.now) c.snapshot.ensures.held)))

pub returns-in-PinGet-clause-served : goal.returns-in-PinGet-clause-served
returns-in-PinGet-clause-served g c = λ told begin from h caller on shown.
    let view = view_of c.args.engine.now.core in
    let held = c.args.slots.now.held.items in
    let slot = c.in-PinGet.slot in
    let ten = c.requires.ten in
    let within = c.snapshot.ensures.within in
    let is = c.pin_get.ensures.served told begin h caller slot view.faults view.disk.moment (shown_at held h slot (omega (arith, ten, within)) c.snapshot.result.now c.snapshot.ensures.held shown) in
    rw c.in-PinGet.is (looked_up g.D.Disk.ports_fail begin from h caller (acts.PinGet slot c.in-PinGet.key) view on c.pin_get.result is)

pub returns-in-PinGet-clause-slotted : goal.returns-in-PinGet-clause-slotted
returns-in-PinGet-clause-slotted g c =
    let held = c.args.slots.now.held.items in
    on_ok c.pin_get.result (ap (λ act. held_behind act (held_in held)) c.in-PinGet.is ∙ behind_held held c.in-PinGet.slot _ (ap is_some c.snapshot.ensures.held))

pub snapshot-requires-in-PinScan-clause-held : goal.snapshot-requires-in-PinScan-clause-held
snapshot-requires-in-PinScan-clause-held g c κs within = finds_held c.args.slots.now.held.items c.in-PinScan.slot _ (subst (λ act. IsSome (held_behind act (held_in c.args.slots.now.held.items))) c.in-PinScan.is c.requires.slotted)

pub returns-in-PinScan-clause-told : goal.returns-in-PinScan-clause-told
returns-in-PinScan-clause-told g c =
    let view = view_of c.args.engine.now.core in
    let s = standing_of view in
    let told = c.pin_scan.ensures.told view.faults view.faults s c.in-PinScan.slot in
    let Is = λ (reply : Reply). IsTold g.D.Disk.ports_fail view.faults view.faults (acts.PinScan c.in-PinScan.slot c.in-PinScan.lo c.in-PinScan.hi) s reply s in
    rw c.in-PinScan.is (match_later Is c.pin_scan.result s s (or_same Is c.pin_scan.result s told))

pub returns-in-PinScan-clause-slots : goal.returns-in-PinScan-clause-slots
returns-in-PinScan-clause-slots g c =
    let held = c.args.slots.now.held.items in
    let slots = slots_of held in
    let slot = c.in-PinScan.slot in
    let Is = λ (reply : Reply). InSlots (acts.PinScan c.in-PinScan.slot c.in-PinScan.lo c.in-PinScan.hi) reply slots slots in
    rw c.in-PinScan.is (or_kept Is slots c.pin_scan.result (c.pin_scan.ensures.slots slots slot (pin_at held slot (Some c.snapshot-in-PinScan.result.now) c.snapshot-in-PinScan.ensures.held)))

pub returns-in-PinScan-clause-served : goal.returns-in-PinScan-clause-served
returns-in-PinScan-clause-served g c = λ told begin from h caller on shown.
    let view = view_of c.args.engine.now.core in
    let held = c.args.slots.now.held.items in
    let slot = c.in-PinScan.slot in
    let ten = c.requires.ten in
    let within = c.snapshot-in-PinScan.ensures.within in
    let is = c.pin_scan.ensures.served told begin h caller slot view.faults view.disk.moment (shown_at held h slot (omega (arith, ten, within)) c.snapshot-in-PinScan.result.now c.snapshot-in-PinScan.ensures.held shown) in
    rw c.in-PinScan.is (looked_up g.D.Disk.ports_fail begin from h caller (acts.PinScan slot c.in-PinScan.lo c.in-PinScan.hi) view on c.pin_scan.result is)

pub returns-in-PinScan-clause-slotted : goal.returns-in-PinScan-clause-slotted
returns-in-PinScan-clause-slotted g c =
    let held = c.args.slots.now.held.items in
    on_ok c.pin_scan.result (ap (λ act. held_behind act (held_in held)) c.in-PinScan.is ∙ behind_held held c.in-PinScan.slot _ (ap is_some c.snapshot-in-PinScan.ensures.held))

pub unpin-requires-clause-held : goal.unpin-requires-clause-held
unpin-requires-clause-held g c κs within = finds_held c.args.slots.now.held.items c.in-Unpin.slot _ (subst (λ act. IsSome (held_behind act (held_in c.args.slots.now.held.items))) c.in-Unpin.is c.requires.slotted)

pub returns-clause-told : goal.returns-clause-told
returns-clause-told g c = rw c.in-Unpin.is c.unpin.ensures.told

pub returns-clause-slots : goal.returns-clause-slots
returns-clause-slots g c = rw c.in-Unpin.is c.unpin.ensures.slots

pub returns-clause-served : goal.returns-clause-served
returns-clause-served g c = λ told begin from h caller on shown. rw c.in-Unpin.is (c.unpin.ensures.served told begin from h caller on)

pub returns-clause-slotted : goal.returns-clause-slotted
returns-clause-slotted g c = rw c.in-Unpin.is c.unpin.ensures.slotted
