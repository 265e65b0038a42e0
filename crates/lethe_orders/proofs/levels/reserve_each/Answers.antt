use Rattle.std.proofs.Common.{◌≡◌, ◌∙◌, Some, length, sym}
use Rattle.std.specs.Prelude.{slice_get}
use Rattle.std.proofs.lemmas.Option.{slice_get_read}
use Rattle.lethe_orders.proofs.Rooms.{kept_more, room_more}
use Rattle.lethe_orders.proofs.levels.reserve_each.Goals as goal

pub loop-place-preserved : goal.loop-place-preserved
loop-place-preserved c =
    let lists = c.loop-place.lists.items in
    let place = c.loop-place.place in
    let was = c.index_mut-list.result.now in
    let long : c.len-place-end.result ≡ length lists = c.len-place-end.ensures ∙ c.args.lists.now.ok.0 ∙ sym c.loop-place.invariant.kept.count in
    let here : slice_get lists place ≡ Some was = slice_get_read lists c.len-place-end.result place was long c.loop-place-test.true c.index_mut-list.ensures.value in
    record {
      room = room_more c.args.files lists place c.reserve.new.self c.in_ok-reserve.ensures.spare c.loop-place.invariant.room;
      kept = kept_more c.args.lists.now.items lists place was c.reserve.new.self here c.in_ok-reserve.ensures.files c.in_ok-reserve.ensures.kept c.loop-place.invariant.kept;
    }

pub returns-in_err-reserve-clause-kept : goal.returns-in_err-reserve-clause-kept
returns-in_err-reserve-clause-kept c =
    let lists = c.loop-place.lists.items in
    let place = c.loop-place.place in
    let was = c.index_mut-list.result.now in
    let long : c.len-place-end.result ≡ length lists = c.len-place-end.ensures ∙ c.args.lists.now.ok.0 ∙ sym c.loop-place.invariant.kept.count in
    let here : slice_get lists place ≡ Some was = slice_get_read lists c.len-place-end.result place was long c.loop-place-test.true c.index_mut-list.ensures.value in
    kept_more c.args.lists.now.items lists place was c.reserve.new.self here c.in_err-reserve.ensures.files c.in_err-reserve.ensures.kept c.loop-place.invariant.kept
