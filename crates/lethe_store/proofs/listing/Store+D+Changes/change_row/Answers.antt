use Rattle.std.proofs.Common.{◌≡◌, length, sym, ap, ◌∙◌, subst, arith}
use Rattle.lethe_turn.specs.Seats.{HasSeenMore, count_of}
use Rattle.lethe_store.specs.StoreViews.{store_view}
use Rattle.lethe_store.specs.Reasons.{counts_of}
use Rattle.lethe_store.specs.Sessions.{IsLedTo}
use Rattle.lethe_store.specs.Since.{Since, all_counted}
use Rattle.lethe_store.proofs.Rows.{few_said, fits_row, leads_row, made_row, number_is, reason_row, room_row, stopped_row, told_so}
use Rattle.lethe_store.proofs.Seats.{ready_after}
use Rattle.lethe_store.proofs.listing.Store+D+Changes.change_row.Goals as goal

pub overflow_add-number : goal.overflow_add-number
overflow_add-number g c =
    let row = c.change_row-row in let old = store_view c.take-held.result.value.engine in let new = store_view row.new.self in let caller = c.args.session.now.caller in
    let few = few_said g.D.Disk.tells c.args.asked.now.items row.new.asked.items row.result.done row.result.refused old new row.ensures.answers caller in
    let number = number_is g.D.Disk.tells c.args.asked.now.items row.new.asked.items row.result.done row.result.refused old new row.ensures.answers caller c.did_in_row.result c.number_of.result c.did_in_row.ensures c.number_of.ensures in
    omega (arith, few, number)

pub give-requires-clause-number : goal.give-requires-clause-number
give-requires-clause-number g c κs within =
    let row = c.change_row-row in let old = store_view c.take-held.result.value.engine in let new = store_view row.new.self in let caller = c.args.session.now.caller in
    let told = told_so g.D.Disk.tells c.args.asked.now.items row.new.asked.items row.result.done row.result.refused old new row.ensures.answers caller c.learn-count.new.session.caller c.told_changes-told.result.items c.told_row-said.result.items c.told_row-said.ensures (c.learn-count.ensures.of.1 ∙ c.take-held.ensures.of.1) c.told_changes-told.ensures in
    ap length told ∙ number_is g.D.Disk.tells c.args.asked.now.items row.new.asked.items row.result.done row.result.refused old new row.ensures.answers caller c.did_in_row.result c.number_of.result c.did_in_row.ensures c.number_of.ensures

pub give-requires-clause-room : goal.give-requires-clause-room
give-requires-clause-room g c κs within =
    let row = c.change_row-row in let old = store_view c.take-held.result.value.engine in let new = store_view row.new.self in let caller = c.args.session.now.caller in
    let v = c.args.session.now.seat.me.0 in let w = c.learn-count.new.session.seat.me.0 in
    let more = subst (λ m. HasSeenMore v m.0) (sym c.learn-count.ensures.same) c.take-held.ensures.more in
    let leads = subst (λ m. IsLedTo (λ o. store_view o.engine) (Since g.D.Disk.tells g.D.Disk.ports_fail) m.0 old) (sym c.learn-count.ensures.same) c.take-held.ensures.since in
    let told = told_so g.D.Disk.tells c.args.asked.now.items row.new.asked.items row.result.done row.result.refused old new row.ensures.answers caller c.learn-count.new.session.caller c.told_changes-told.result.items c.told_row-said.result.items c.told_row-said.ensures (c.learn-count.ensures.of.1 ∙ c.take-held.ensures.of.1) c.told_changes-told.ensures in
    room_row g.D.Disk.tells c.args.asked.now.items row.new.asked.items row.result.done row.result.refused old new row.ensures.answers caller g.D.Disk.ports_fail (λ o. store_view o.engine) v w more leads (ap (λ l. l.items) row.ensures.certificates) c.told_row-said.result.items c.told_nothing.result.items told c.told_nothing.ensures c.requires.ready.1

pub give-requires-clause-since : goal.give-requires-clause-since
give-requires-clause-since g c κs within =
    let row = c.change_row-row in let old = store_view c.take-held.result.value.engine in let new = store_view row.new.self in let caller = c.args.session.now.caller in
    let v = c.args.session.now.seat.me.0 in let w = c.learn-count.new.session.seat.me.0 in
    let more = subst (λ m. HasSeenMore v m.0) (sym c.learn-count.ensures.same) c.take-held.ensures.more in
    let leads = subst (λ m. IsLedTo (λ o. store_view o.engine) (Since g.D.Disk.tells g.D.Disk.ports_fail) m.0 old) (sym c.learn-count.ensures.same) c.take-held.ensures.since in
    let told = told_so g.D.Disk.tells c.args.asked.now.items row.new.asked.items row.result.done row.result.refused old new row.ensures.answers caller c.learn-count.new.session.caller c.told_changes-told.result.items c.told_row-said.result.items c.told_row-said.ensures (c.learn-count.ensures.of.1 ∙ c.take-held.ensures.of.1) c.told_changes-told.ensures in
    leads_row g.D.Disk.tells c.args.asked.now.items row.new.asked.items row.result.done row.result.refused old new row.ensures.answers caller g.D.Disk.ports_fail (λ o. store_view o.engine) v w more leads (ap (λ l. l.items) row.ensures.certificates) c.told_row-said.result.items c.told_nothing.result.items told c.told_nothing.ensures

pub returns-clause-ready : goal.returns-clause-ready
returns-clause-ready g c =
    let v = c.args.session.now.seat.me.0 in let w = c.learn-count.new.session.seat.me.0 in
    let more = subst (λ m. HasSeenMore v m.0) (sym c.learn-count.ensures.same) c.take-held.ensures.more in
    ready_after all_counted (λ o. store_view o.engine) c.args.session.now.seat.me w c.give.new.session.seat.me c.told_row-said.result.items c.told_nothing.result.items c.requires.ready more c.give.ensures.given

pub returns-clause-made : goal.returns-clause-made
returns-clause-made g c =
    let row = c.change_row-row in let old = store_view c.take-held.result.value.engine in let new = store_view row.new.self in let caller = c.args.session.now.caller in
    let v = c.args.session.now.seat.me.0 in let w = c.learn-count.new.session.seat.me.0 in
    let more = subst (λ m. HasSeenMore v m.0) (sym c.learn-count.ensures.same) c.take-held.ensures.more in
    let leads = subst (λ m. IsLedTo (λ o. store_view o.engine) (Since g.D.Disk.tells g.D.Disk.ports_fail) m.0 old) (sym c.learn-count.ensures.same) c.take-held.ensures.since in
    let told = told_so g.D.Disk.tells c.args.asked.now.items row.new.asked.items row.result.done row.result.refused old new row.ensures.answers caller c.learn-count.new.session.caller c.told_changes-told.result.items c.told_row-said.result.items c.told_row-said.ensures (c.learn-count.ensures.of.1 ∙ c.take-held.ensures.of.1) c.told_changes-told.ensures in
    made_row g.D.Disk.tells c.args.asked.now.items row.new.asked.items row.result.done row.result.refused old new row.ensures.answers caller g.D.Disk.ports_fail (λ o. store_view o.engine) v w more leads (ap (λ l. l.items) row.ensures.certificates) c.give.new.session.seat.me.0 c.told_row-said.result.items c.told_nothing.result.items c.learn-count.result told c.told_nothing.ensures (ap (λ m. m.0) c.give.ensures.given)
    (c.learn-count.ensures.count ∙ ap (λ m. count_of m.0) (sym c.learn-count.ensures.same))

pub returns-clause-fits : goal.returns-clause-fits
returns-clause-fits g c =
    let row = c.change_row-row in let old = store_view c.take-held.result.value.engine in let new = store_view row.new.self in let caller = c.args.session.now.caller in
    let v = c.args.session.now.seat.me.0 in let w = c.learn-count.new.session.seat.me.0 in
    let more = subst (λ m. HasSeenMore v m.0) (sym c.learn-count.ensures.same) c.take-held.ensures.more in
    let leads = subst (λ m. IsLedTo (λ o. store_view o.engine) (Since g.D.Disk.tells g.D.Disk.ports_fail) m.0 old) (sym c.learn-count.ensures.same) c.take-held.ensures.since in
    fits_row g.D.Disk.tells c.args.asked.now.items row.new.asked.items row.result.done row.result.refused old new row.ensures.answers caller g.D.Disk.ports_fail (λ o. store_view o.engine) v w more leads (ap (λ l. l.items) row.ensures.certificates) c.requires.ready.1 c.learn-count.result (c.learn-count.ensures.count ∙ ap (λ m. count_of m.0) (sym c.learn-count.ensures.same))

pub returns-clause-stopped : goal.returns-clause-stopped
returns-clause-stopped g c =
    let row = c.change_row-row in let old = store_view c.take-held.result.value.engine in let new = store_view row.new.self in let caller = c.args.session.now.caller in
    let v = c.args.session.now.seat.me.0 in let w = c.learn-count.new.session.seat.me.0 in
    let more = subst (λ m. HasSeenMore v m.0) (sym c.learn-count.ensures.same) c.take-held.ensures.more in
    let leads = subst (λ m. IsLedTo (λ o. store_view o.engine) (Since g.D.Disk.tells g.D.Disk.ports_fail) m.0 old) (sym c.learn-count.ensures.same) c.take-held.ensures.since in
    stopped_row g.D.Disk.tells c.args.asked.now.items row.new.asked.items row.result.done row.result.refused old new row.ensures.answers caller g.D.Disk.ports_fail (λ o. store_view o.engine) v w more leads (ap (λ l. l.items) row.ensures.certificates) c.requires.ready.1

pub returns-clause-why : goal.returns-clause-why
returns-clause-why g c =
    let row = c.change_row-row in let old = store_view c.take-held.result.value.engine in let new = store_view row.new.self in let caller = c.args.session.now.caller in
    let v = c.args.session.now.seat.me.0 in let w = c.learn-count.new.session.seat.me.0 in
    let more = subst (λ m. HasSeenMore v m.0) (sym c.learn-count.ensures.same) c.take-held.ensures.more in
    let leads = subst (λ m. IsLedTo (λ o. store_view o.engine) (Since g.D.Disk.tells g.D.Disk.ports_fail) m.0 old) (sym c.learn-count.ensures.same) c.take-held.ensures.since in
    let told = told_so g.D.Disk.tells c.args.asked.now.items row.new.asked.items row.result.done row.result.refused old new row.ensures.answers caller c.learn-count.new.session.caller c.told_changes-told.result.items c.told_row-said.result.items c.told_row-said.ensures (c.learn-count.ensures.of.1 ∙ c.take-held.ensures.of.1) c.told_changes-told.ensures in
    let counts = counts_of (g.D.Disk.fetches c.give.new.session.port) (g.D.Disk.port_faults c.give.new.session.port) in
    reason_row g.D.Disk.tells c.args.asked.now.items row.new.asked.items row.result.done row.result.refused old new row.ensures.answers caller g.D.Disk.ports_fail (λ o. store_view o.engine) v w more leads (ap (λ l. l.items) row.ensures.certificates) c.requires.ready.1 c.give.new.session.seat.me.0 c.told_row-said.result.items c.told_nothing.result.items told (ap (λ m. m.0) c.give.ensures.given) counts counts
