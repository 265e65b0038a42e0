use Rattle.std.proofs.Common.{rules, ◌≡◌, ap}
use Rattle.lethe_turn.specs.Seats.{first_view}
use Rattle.lethe_test_turn.proofs.Adds.{settles}
use Rattle.lethe_test_turn.proofs.phase.run.Goals as goal

pub returns : goal.returns
returns g c =
    let made : c.in_ok-store.seat.me.0 ≡ first_view c.args.sum c.args.sum.count = search rules in
    settles c.args.sum c.finish.result _ c.in_ok-store.seat.me.0 c.add_all-seat.result.0.me.0 (ap (λ v. v.mine) made) (ap (λ v. v.opened) made) (ap (λ v. v.parts) made) c.add_all-seat.ensures.acted.0 c.finish.ensures
