use denote.Param.Send.{param_send, sendable}
use Rattle.lethe_embed_threads.proofs.Crossing.{office_send, shared_sync}
use Rattle.lethe_embed_threads.proofs.two_offices.Lts as lts
use Rattle.lethe_embed_threads.proofs.two_offices.Goals as goal

pub join-requires-send-F : goal.join-requires-send-F
join-requires-send-F g c κs within =
    param_send 1 (lts.arg-0-1 g.row.R g.R.laws g.R.Threads-dict g.R.Wait-dict κs)
    (record { owned = λ x vs vss. (tt, ((tt, c.type_bounds.sync-R.shared x.0.now x.0.ref_ptr.0 x.0.ref_ptr.1 _), ((λ us. (tt, ((λ ws. (tt, (tt, tt))), tt))), ((tt, shared_sync.shared x.2.now x.2.ref_ptr.0 x.2.ref_ptr.1 _), (office_send.owned x.3 vss.1.1.1.0, tt))))); leaving = λ k x w. (tt, (tt, (tt, (office_send.leaving denote.Exit.no x.3 w.1.1.1.0, tt)))) })

pub join-requires-send-A : goal.join-requires-send-A
join-requires-send-A g c κs within = search (sendable, office_send) depth 40
