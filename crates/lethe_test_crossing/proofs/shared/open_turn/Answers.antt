use Rattle.lethe_test_crossing.proofs.Seats.{ready_left, ready_right}
use Rattle.lethe_test_crossing.proofs.shared.open_turn.Goals as goal

pub returns-in-Ok-clause-one : goal.returns-in-Ok-clause-one
returns-in-Ok-clause-one g c = ready_left c.in-Ok.seat.me c.split-other.new.seat.me (record { engine = c.args.engine }) 0 c.in-Ok.ensures.ok.1 c.split-other.ensures.old

pub returns-in-Ok-clause-other : goal.returns-in-Ok-clause-other
returns-in-Ok-clause-other g c = ready_right c.in-Ok.seat.me c.split-other.result.me (record { engine = c.args.engine }) 0 c.in-Ok.ensures.ok.1 c.split-other.ensures.new
