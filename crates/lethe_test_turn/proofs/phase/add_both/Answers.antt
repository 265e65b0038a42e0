use Rattle.std.proofs.Common.{rules, ◌≡◌, ap}
use Rattle.lethe_turn.specs.Seats.{first_view, left_of, right_of}
use Rattle.lethe_test_turn.specs.Sums.{addition}
use Rattle.lethe_test_turn.proofs.Adds.{Once, once_of, settles_both}
use Rattle.lethe_test_turn.proofs.phase.add_both.Goals as goal

pub returns : goal.returns
returns g c =
    let r = c.join-one.result.0.1 in let q = c.join-one.result.1.1 in
    let made : c.in_ok-store.seat.me.0 ≡ first_view c.args.sum c.args.sum.count = search rules in
    let one : Once (addition 1 c.args.first) r c.split-other.new.seat.me.0 c.join-one.result.0.0.me.0 = once_of _ r _ _ (search rules) (search rules) in
    let two : Once (addition 2 c.args.second) q c.split-other.result.me.0 c.join-one.result.1.0.me.0 = once_of _ q _ _ (search rules) (search rules) in
    let left : c.split-other.new.seat.me.0 ≡ left_of c.in_ok-store.seat.me.0 = search rules in
    let right : c.split-other.result.me.0 ≡ right_of c.in_ok-store.seat.me.0 = search rules in
    settles_both c.args.sum c.finish.result _ _ r q c.in_ok-store.seat.me.0 c.split-other.new.seat.me.0 c.split-other.result.me.0 c.join-one.result.0.0.me.0 c.join-one.result.1.0.me.0 c.join.new.seat.me.0
    (ap (λ v. v.mine) made) (ap (λ v. v.opened) made) (ap (λ v. v.start) made) (ap (λ v. v.parts) made) left right one two c.join.ensures.joined c.finish.ensures
