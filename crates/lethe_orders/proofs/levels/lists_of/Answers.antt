use Rattle.std.proofs.Common.{◌≡◌, ◌∙◌, ◌+◌, Some, [], ◌∷◌, ◌++◌, length-append, refl, ap, sym, subst, length, arith}
use Rattle.std.specs.Prelude.{slice_get}
use Rattle.std.proofs.lemmas.Option.{slice_get_read}
use Rattle.lethe_orders.specs.Standing.{AreOrdersOf}
use Rattle.lethe_orders.proofs.Rooms.{orders_push}
use Rattle.lethe_orders.proofs.levels.lists_of.Goals as goal

pub loop-level-preserved : goal.loop-level-preserved
loop-level-preserved g c =
    let levels = c.args.levels.now in
    let level = c.loop-level.level in
    let files = c.items.result.now in
    let there : slice_get levels level ≡ Some files = slice_get_read levels (length levels) level c.index-levels-level.result refl (omega (arith, c.loop-level-test.true, c.requires.within)) c.index-levels-level.is ∙ ap Some (sym c.items.ensures) in
    let pushed : length (c.loop-level.lists.items ++ c.in_ok-list.list ∷ []) ≡ level + 1 = omega (arith, length-append c.loop-level.lists.items (c.in_ok-list.list ∷ []), c.loop-level.invariant.count) in
    record {
      count = ap length c.in_ok-push.ensures.items ∙ pushed;
      orders = subst (AreOrdersOf levels) (sym c.in_ok-push.ensures.items)
          (orders_push levels c.loop-level.lists.items c.in_ok-list.list files (ap (slice_get levels) c.loop-level.invariant.count ∙ there) c.in_ok-list.ensures c.loop-level.invariant.orders);
    }
