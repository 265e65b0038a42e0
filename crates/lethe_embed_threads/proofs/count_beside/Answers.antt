use denote.Param.Send.{param_send, sendable}
use Rattle.lethe_embed_threads.proofs.Crossing.{pinned_sync, report_send}
use Rattle.lethe_embed_threads.proofs.count_beside.Lts as lts
use Rattle.lethe_embed_threads.proofs.count_beside.Goals as goal

pub join-requires-send-F : goal.join-requires-send-F
join-requires-send-F g c κs within =
    param_send 1 (lts.arg-0-1 g.row.R g.R.laws g.R.Threads-dict g.R.Wait-dict κs)
    (record { owned = λ x vs vss. (tt, ((λ us. (tt, ((λ ws. (tt, (tt, tt))), tt))), ((tt, pinned_sync.shared x.1.now x.1.ref_ptr.0 x.1.ref_ptr.1 _), (report_send.owned x.2 vss.1.1.0, tt)))); leaving = λ k x w. (tt, (tt, (report_send.leaving denote.Exit.no x.2 w.1.1.0, tt))) })

pub join-requires-send-A : goal.join-requires-send-A
join-requires-send-A g c κs within = search (sendable, report_send) depth 40
