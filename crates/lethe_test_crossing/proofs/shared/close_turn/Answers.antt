use Rattle.std.specs.Prelude.{⊤}
use Rattle.lethe_core.specs.Running.{IsSound}
use Rattle.lethe_core.specs.View.{view_of}
use Rattle.lethe_test_crossing.proofs.Seats.{comes_out}
use Rattle.lethe_test_crossing.proofs.shared.close_turn.Goals as goal

pub returns : goal.returns
returns g c =
    comes_out (λ lent. IsSound g.D.Disk.tells (view_of lent.engine.core)) (λ marks. ⊤) c.args.one.me c.args.other.me c.join.new.seat.me c.finish-engine.result c.requires.ready.0 c.join.ensures.joined c.finish-engine.ensures
