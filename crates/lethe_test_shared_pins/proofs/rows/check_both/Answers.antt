use Rattle.std.proofs.Common.{sym, ap, ◌∙◌, subst}
use Rattle.lethe_store.specs.StoreViews.{store_view}
use Rattle.lethe_store.specs.Since.{all_counted}
use Rattle.lethe_store.specs.Sessions.{IsReady}
use Rattle.lethe_test_shared_pins.proofs.rows.check_both.Goals.{in-A, in-B}
use Rattle.lethe_test_shared_pins.proofs.rows.check_both.Goals as goal

pub loop-row-preserved : goal.loop-row-preserved
loop-row-preserved g c =
    let before = c.loop-row.invariant in
    elim c.match-row.branch [
      | in-A w ↦ (
        ap (λ s. s.seat.table_id) w.one-is ∙ w.check_row.ensures.of ∙ before.0,
        subst (λ s. IsReady all_counted (λ o. store_view o.engine) s.seat.me) (sym w.one-is) w.check_row.ensures.ready,
        ap (λ s. s.seat.table_id) w.other-is ∙ before.2,
        subst (λ s. IsReady all_counted (λ o. store_view o.engine) s.seat.me) (sym w.other-is) before.3,
      )
      | in-B w ↦ (
        ap (λ s. s.seat.table_id) w.one-is ∙ before.0,
        subst (λ s. IsReady all_counted (λ o. store_view o.engine) s.seat.me) (sym w.one-is) before.1,
        ap (λ s. s.seat.table_id) w.other-is ∙ w.check_row-in-B.ensures.of ∙ before.2,
        subst (λ s. IsReady all_counted (λ o. store_view o.engine) s.seat.me) (sym w.other-is) w.check_row-in-B.ensures.ready,
      )
    ]
