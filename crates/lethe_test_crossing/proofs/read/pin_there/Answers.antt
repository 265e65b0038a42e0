use denote.Param.{param}
use denote.Param.Send.{param_send}
use Rattle.lethe_base.specs.contracts.refused.Refused as Refused
use Rattle.lethe_engine.proofs.Crossing.{engine_send, refused_send, result_send, snapshot_send}
use Rattle.lethe_snapshot.specs.contracts.snapshot.Snapshot as Snapshot
use Rattle.lethe_test_crossing.proofs.read.pin_there.Lts as lts
use Rattle.lethe_test_crossing.proofs.read.pin_there.Goals as goal

pub join-there-requires-send-F : goal.join-there-requires-send-F
join-there-requires-send-F g c κs within =
    let e = engine_send (param 0 g.row.D) (param 2 g.row.D-Page) (param 3 g.row.D-Port) g.D.Disk c.type_bounds.send-D-Page c.type_bounds.sync-D-Page c.type_bounds.send-D in
    param_send 1 (lts.arg-0-1 g.row.D g.row.R g.row.D-Page g.row.D-Port g.D.laws g.R.laws g.D.Page.laws g.D.Port.laws g.D.Disk g.D.Disk-dict g.R.Threads g.R.Threads-dict g.D.Destruct-dict g.D.Page.Destruct-dict g.D.Port.Destruct-dict κs)
    (record { owned = λ x vs vss. (tt, ((λ us. (tt, ((λ ws. (tt, (tt, tt))), tt))), (e.owned x.1 vss.1.0, tt))); leaving = λ k x w. (tt, (e.leaving denote.Exit.no x.1 w.1.0, tt)) })

pub join-there-requires-send-A : goal.join-there-requires-send-A
join-there-requires-send-A g c κs within =
    let e = engine_send (param 0 g.row.D) (param 2 g.row.D-Page) (param 3 g.row.D-Port) g.D.Disk c.type_bounds.send-D-Page c.type_bounds.sync-D-Page c.type_bounds.send-D in
    let s = snapshot_send (param 0 g.row.D) (param 2 g.row.D-Page) (param 3 g.row.D-Port) g.D.Disk c.type_bounds.send-D-Page c.type_bounds.sync-D-Page in
    let r = result_send (Snapshot.the_row (param 0 g.row.D) (param 2 g.row.D-Page) (param 3 g.row.D-Port) g.D.Disk) Refused.the_row s refused_send in
    param_send 3 (lts.arg-0-3 g.row.D g.row.R g.row.D-Page g.row.D-Port g.D.laws g.R.laws g.D.Page.laws g.D.Port.laws g.D.Disk g.D.Disk-dict g.R.Threads g.R.Threads-dict g.D.Destruct-dict g.D.Page.Destruct-dict g.D.Port.Destruct-dict κs)
    (record { owned = λ x vs vss. (tt, (e.owned x.0 vss.0, (r.owned x.1 vss.1.0, tt))); leaving = λ k x w. (e.leaving denote.Exit.no x.0 w.0, (r.leaving denote.Exit.no x.1 w.1.0, tt)) })
