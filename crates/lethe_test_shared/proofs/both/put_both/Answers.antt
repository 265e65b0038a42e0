use denote.Builtin.{u64}
use denote.Param.{param}
use denote.Param.Send.{param_send, sendable}
use Rattle.std.proofs.Common.{ap, ◌∙◌, subst}
use Rattle.std.proofs.Crossing.{crosses}
use Rattle.std.specs.Result.{result_err}
use Rattle.lethe_base.specs.contracts.refused.Refused as Refused
use Rattle.lethe_base.specs.declared.call.Call.TheVariants as call
use Rattle.lethe_core.specs.Asked.{Makes}
use Rattle.lethe_engine.proofs.Crossing.{refused_send, result_send}
use Rattle.lethe_store.specs.StoreViews.{store_view}
use Rattle.lethe_store.specs.Diary.{spent_by}
use Rattle.lethe_store.specs.Entries.{entries_by}
use Rattle.lethe_store.specs.Sessions.{HasDone}
use Rattle.lethe_test_shared.proofs.InOne.{in_one_history}
use Rattle.lethe_test_shared.specs.contracts.both.Put as Put
use denote.Param.Send.{IsSend}
use Rattle.lethe_store.specs.contracts.changes.Changes as Changes
use Rattle.lethe_store.specs.contracts.changes.ChangesLog.TheImpl as changes
use Rattle.lethe_store.specs.contracts.entry.Entry as Entry
use Rattle.lethe_store.specs.contracts.entry.Mark as Mark
use Rattle.lethe_store.proofs.Crossing.{session_send, store_sync}
use Rattle.lethe_test_shared.proofs.both.put_both.Lts as lts
use Rattle.lethe_test_shared.proofs.both.put_both.Goals as goal

put_send : IsSend Put.the_row
put_send = search (crosses, sendable) depth 60

pub join-one-requires-send-F : goal.join-one-requires-send-F
join-one-requires-send-F g c κs within =
    let e = session_send (param 0 g.row.D) Changes.the_row (param 2 g.row.D-Page) (param 3 g.row.D-Port) Entry.the_row Mark.the_row g.D.Disk c.type_bounds.send-D-Page c.type_bounds.sync-D-Page c.type_bounds.send-D c.type_bounds.send-D-Port in
    let y = store_sync (param 0 g.row.D) Changes.the_row (param 2 g.row.D-Page) (param 3 g.row.D-Port) Entry.the_row Mark.the_row g.D.Disk c.type_bounds.send-D-Page c.type_bounds.sync-D-Page c.type_bounds.send-D changes.ghosts in
    param_send 1 (lts.arg-6-1 g.row.D g.row.R g.row.D-Page g.row.D-Port g.D.laws g.R.laws g.D.Page.laws g.D.Port.laws g.D.Disk g.D.Disk-dict g.R.Threads g.R.Threads-dict g.R.Wait g.R.Wait-dict g.D.Destruct-dict g.D.Page.Destruct-dict g.D.Port.Destruct-dict κs)
    (record { owned = λ x vs vss. (tt, ((tt, c.type_bounds.sync-R.shared x.0.now x.0.ref_ptr.0 x.0.ref_ptr.1 _), ((λ us. (tt, ((λ ws. (tt, (tt, tt))), tt))), ((tt, y.shared x.2.now x.2.ref_ptr.0 x.2.ref_ptr.1 _), (e.owned x.3 vss.1.1.1.0, (put_send.owned x.4 vss.1.1.1.1.0, tt)))))); leaving = λ k x w. (tt, (tt, (tt, (e.leaving denote.Exit.no x.3 w.1.1.1.0, (put_send.leaving denote.Exit.no x.4 w.1.1.1.1.0, tt))))) })

pub join-one-requires-send-A : goal.join-one-requires-send-A
join-one-requires-send-A g c κs within =
    let e = session_send (param 0 g.row.D) Changes.the_row (param 2 g.row.D-Page) (param 3 g.row.D-Port) Entry.the_row Mark.the_row g.D.Disk c.type_bounds.send-D-Page c.type_bounds.sync-D-Page c.type_bounds.send-D c.type_bounds.send-D-Port in
    let r = result_send u64 Refused.the_row (search sendable) refused_send in
    param_send 3 (lts.arg-6-3 g.row.D g.row.R g.row.D-Page g.row.D-Port g.D.laws g.R.laws g.D.Page.laws g.D.Port.laws g.D.Disk g.D.Disk-dict g.R.Threads g.R.Threads-dict g.R.Wait g.R.Wait-dict g.D.Destruct-dict g.D.Page.Destruct-dict g.D.Port.Destruct-dict κs)
    (record { owned = λ x vs vss. (tt, (e.owned x.0 vss.0, (r.owned x.1 vss.1.0, tt))); leaving = λ k x w. (e.leaving denote.Exit.no x.0 w.0, tt) })

pub returns : goal.returns
returns g c =
    let f = c.in_ok-store.ensures.first in
    let a = call.Put c.args.first.key c.args.first.dkey c.args.first.value in
    let b = call.Put c.args.second.key c.args.second.dkey c.args.second.value in
    let u = c.in_ok-store.one.seat.me.0 in
    let v = c.split.new.session.seat.me.0 in
    let w = c.in-Ok.other.seat.me.0 in
    let left = c.join-one.result.0.0.seat.me.0 in
    let right = c.join-one.result.1.0.seat.me.0 in
    in_one_history g.D.Disk.tells g.D.Disk.ports_fail (λ o. store_view o.engine) (store_view c.args.engine) (store_view c.finish-engine.result) c.requires f.0 f.2 u v w left right c.join.new.session.seat.me.0
    (ap (λ m. m.0) f.1) c.in-Ok.ensures.split a b c.join-one.result.0.1 c.join-one.result.1.1
    (subst (λ n. HasDone (entries_by n (Makes a) (result_err c.join-one.result.0.1)) (spent_by (result_err c.join-one.result.0.1)) v left) (c.in-Ok.ensures.of.1 ∙ c.in_ok-store.ensures.of.1) c.join-one.ensures.first.1.1.0)
    (subst (λ n. HasDone (entries_by n (Makes b) (result_err c.join-one.result.1.1)) (spent_by (result_err c.join-one.result.1.1)) w right) c.in-Ok.ensures.other_of.1 c.join-one.ensures.second.1.1.0)
    c.join-one.ensures.first.1.1.1 c.join-one.ensures.second.1.1.1 c.join.ensures.joined c.finish-engine.ensures.finished
