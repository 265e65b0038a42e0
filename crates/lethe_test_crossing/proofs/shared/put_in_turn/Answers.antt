use Rattle.lethe_test_crossing.proofs.Seats.{ready_again}
use Rattle.lethe_test_crossing.proofs.shared.put_in_turn.Goals as goal

pub returns-clause-ready : goal.returns-clause-ready
returns-clause-ready g c = ready_again c.args.seat.me c.take-held.new.seat.me c.pass.new.seat.me c.requires.ready c.take-held.ensures.more c.pass.ensures.passed
