use denote.RattleType.{RattleType}
use denote.Param.{param}
use denote.Param.Send.{IsSend, IsSync, param_send, sendable}
use denote.Param.SendFields.{declared_send}
use Rattle.lethe_disk.specs.declared.disk.Disk.{Ghosts}
use Rattle.lethe_engine.proofs.Crossing.{engine_send}
use Rattle.lethe_turn.proofs.Crossing.{seat_send, turn_sync}
use Rattle.lethe_test_crossing.specs.contracts.shared.Lent as Lent
use Rattle.lethe_test_crossing.specs.contracts.shared.Nothing as Nothing
use Rattle.lethe_test_crossing.proofs.shared.put_both.Lts as lts
use Rattle.lethe_test_crossing.proofs.shared.put_both.Goals as goal

-- a store behind a turn may go to another thread
module _ (D P Q : RattleType) (g : Ghosts D.Denot P.Denot Q.Denot) where
  lent_send : IsSend P → IsSync P → IsSend D → IsSend (Lent.the_row D P Q g)
  lent_send s y d = declared_send (Lent.the_type D P Q g) (engine_send D P Q g s y d, tt)

pub join-one-requires-send-F : goal.join-one-requires-send-F
join-one-requires-send-F g c κs within =
    let e = lent_send (param 0 g.row.D) (param 2 g.row.D-Page) (param 3 g.row.D-Port) g.D.Disk c.type_bounds.send-D-Page c.type_bounds.sync-D-Page c.type_bounds.send-D in
    let s = seat_send (Lent.the_row (param 0 g.row.D) (param 2 g.row.D-Page) (param 3 g.row.D-Port) g.D.Disk) Nothing.the_row Nothing.the_row e in
    param_send 1 (lts.arg-3-1 g.row.D g.row.R g.row.D-Page g.row.D-Port g.D.laws g.R.laws g.D.Page.laws g.D.Port.laws g.D.Disk g.D.Disk-dict g.R.Threads g.R.Threads-dict g.R.Wait g.R.Wait-dict g.D.Destruct-dict g.D.Page.Destruct-dict g.D.Port.Destruct-dict κs)
    (record { owned = λ x vs vss. (tt, ((tt, c.type_bounds.sync-R.shared x.0.now x.0.ref_ptr.0 x.0.ref_ptr.1 _), ((λ us. (tt, ((λ ws. (tt, (tt, tt))), tt))), ((tt, (turn_sync (Lent.the_row (param 0 g.row.D) (param 2 g.row.D-Page) (param 3 g.row.D-Port) g.D.Disk) Nothing.the_row Nothing.the_row _ e).shared x.2.now x.2.ref_ptr.0 x.2.ref_ptr.1 _), (s.owned x.3 vss.1.1.1.0, tt))))); leaving = λ k x w. (tt, (tt, (tt, (s.leaving denote.Exit.no x.3 w.1.1.1.0, tt)))) })

pub join-one-requires-send-A : goal.join-one-requires-send-A
join-one-requires-send-A g c κs within =
    let e = lent_send (param 0 g.row.D) (param 2 g.row.D-Page) (param 3 g.row.D-Port) g.D.Disk c.type_bounds.send-D-Page c.type_bounds.sync-D-Page c.type_bounds.send-D in
    let s = seat_send (Lent.the_row (param 0 g.row.D) (param 2 g.row.D-Page) (param 3 g.row.D-Port) g.D.Disk) Nothing.the_row Nothing.the_row e in
    param_send 3 (lts.arg-3-3 g.row.D g.row.R g.row.D-Page g.row.D-Port g.D.laws g.R.laws g.D.Page.laws g.D.Port.laws g.D.Disk g.D.Disk-dict g.R.Threads g.R.Threads-dict g.R.Wait g.R.Wait-dict g.D.Destruct-dict g.D.Page.Destruct-dict g.D.Port.Destruct-dict κs) (search (s, sendable) depth 20)
