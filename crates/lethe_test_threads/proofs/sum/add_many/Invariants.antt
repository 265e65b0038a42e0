use Rattle.std.proofs.Common.{◌≡◌}
use Rattle.lethe_test_turn.specs.Sessions.{IsReady}
use Rattle.lethe_test_threads.proofs.sum.add_many.Given as goal

abbrev pub invariant-loop : goal.invariant-loop
invariant-loop g l = (l.seat.table_id ≡ l.initial.seat.table_id) × IsReady l.seat.me
