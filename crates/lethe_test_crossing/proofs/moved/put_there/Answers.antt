use denote.Param.{param}
use denote.Param.Send.{param_send, sendable}
use Rattle.lethe_engine.proofs.Crossing.{engine_send}
use Rattle.lethe_test_crossing.proofs.moved.put_there.Lts as lts
use Rattle.lethe_test_crossing.proofs.moved.put_there.Goals as goal

pub join-engine-requires-send-F : goal.join-engine-requires-send-F
join-engine-requires-send-F g c κs within =
    let e = engine_send (param 0 g.row.D) (param 2 g.row.D-Page) (param 3 g.row.D-Port) g.D.Disk c.type_bounds.send-D-Page c.type_bounds.sync-D-Page c.type_bounds.send-D in
    param_send 1 (lts.arg-0-1 g.row.D g.row.R g.row.D-Page g.row.D-Port g.D.laws g.R.laws g.D.Page.laws g.D.Port.laws g.D.Disk g.D.Disk-dict g.R.Threads g.R.Threads-dict g.D.Destruct-dict g.D.Page.Destruct-dict g.D.Port.Destruct-dict κs)
    (record { owned = λ x vs vss. (tt, ((λ us. (tt, ((λ ws. (tt, (tt, tt))), tt))), (e.owned x.1 vss.1.0, tt))); leaving = λ k x w. (tt, (e.leaving denote.Exit.no x.1 w.1.0, tt)) })

pub join-engine-requires-send-A : goal.join-engine-requires-send-A
join-engine-requires-send-A g c κs within =
    let e = engine_send (param 0 g.row.D) (param 2 g.row.D-Page) (param 3 g.row.D-Port) g.D.Disk c.type_bounds.send-D-Page c.type_bounds.sync-D-Page c.type_bounds.send-D in
    param_send 3 (lts.arg-0-3 g.row.D g.row.R g.row.D-Page g.row.D-Port g.D.laws g.R.laws g.D.Page.laws g.D.Port.laws g.D.Disk g.D.Disk-dict g.R.Threads g.R.Threads-dict g.D.Destruct-dict g.D.Page.Destruct-dict g.D.Port.Destruct-dict κs) (search (e, sendable) depth 20)
