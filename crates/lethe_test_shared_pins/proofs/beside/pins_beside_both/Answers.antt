use denote.Param.{param}
use denote.Param.Send.{IsSend, param_send, sendable}
use Rattle.std.proofs.Crossing.{Vec-send, crosses}
use Rattle.lethe_store.specs.contracts.changes.Changes as Changes
use Rattle.lethe_store.specs.contracts.changes.ChangesLog.TheImpl as changes
use Rattle.lethe_store.specs.contracts.entry.Entry as Entry
use Rattle.lethe_store.specs.contracts.entry.Mark as Mark
use Rattle.lethe_store.proofs.Crossing.{session_send, store_sync}
use Rattle.lethe_test_shared_pins.specs.contracts.turns.Pin as Pin
use Rattle.lethe_test_shared_pins.proofs.beside.pins_beside_both.Lts as lts
use Rattle.lethe_test_shared_pins.proofs.beside.pins_beside_both.Goals as goal

pin_send : IsSend Pin.the_row
pin_send = search (crosses, sendable) depth 60

pub join-requires-send-F : goal.join-requires-send-F
join-requires-send-F g c κs within =
    let e = session_send (param 0 g.row.D) Changes.the_row (param 2 g.row.D-Page) (param 3 g.row.D-Port) Entry.the_row Mark.the_row g.D.Disk c.type_bounds.send-D-Page c.type_bounds.sync-D-Page c.type_bounds.send-D c.type_bounds.send-D-Port in
    let y = store_sync (param 0 g.row.D) Changes.the_row (param 2 g.row.D-Page) (param 3 g.row.D-Port) Entry.the_row Mark.the_row g.D.Disk c.type_bounds.send-D-Page c.type_bounds.sync-D-Page c.type_bounds.send-D changes.ghosts in
    param_send 1 (lts.arg-0-1 g.row.D g.row.R g.row.D-Page g.row.D-Port g.D.laws g.R.laws g.D.Page.laws g.D.Port.laws g.D.Disk g.D.Disk-dict g.R.Threads g.R.Threads-dict g.R.Wait g.R.Wait-dict g.R.Abort g.R.Abort-dict g.D.Destruct-dict g.D.Page.Destruct-dict g.D.Port.Destruct-dict κs)
    (record { owned = λ x vs vss. (tt, ((λ us. (tt, ((λ ws. (tt, (tt, tt))), tt))), ((tt, c.type_bounds.sync-R.shared x.1.now x.1.ref_ptr.0 x.1.ref_ptr.1 _), ((tt, y.shared x.2.now x.2.ref_ptr.0 x.2.ref_ptr.1 _), (e.owned x.3 vss.1.1.1.0, tt))))); leaving = λ k x w. (tt, (tt, (tt, (e.leaving denote.Exit.no x.3 w.1.1.1.0, tt)))) })

pub join-requires-send-A : goal.join-requires-send-A
join-requires-send-A g c κs within =
    let e = session_send (param 0 g.row.D) Changes.the_row (param 2 g.row.D-Page) (param 3 g.row.D-Port) Entry.the_row Mark.the_row g.D.Disk c.type_bounds.send-D-Page c.type_bounds.sync-D-Page c.type_bounds.send-D c.type_bounds.send-D-Port in
    let r = Vec-send Pin.the_row pin_send in
    param_send 3 (lts.arg-0-3 g.row.D g.row.R g.row.D-Page g.row.D-Port g.D.laws g.R.laws g.D.Page.laws g.D.Port.laws g.D.Disk g.D.Disk-dict g.R.Threads g.R.Threads-dict g.R.Wait g.R.Wait-dict g.R.Abort g.R.Abort-dict g.D.Destruct-dict g.D.Page.Destruct-dict g.D.Port.Destruct-dict κs)
    (record { owned = λ x vs vss. (tt, (e.owned x.0 vss.0, (r.owned x.1 vss.1.0, tt))); leaving = λ k x w. (e.leaving denote.Exit.no x.0 w.0, (r.leaving denote.Exit.no x.1 w.1.0, tt)) })
