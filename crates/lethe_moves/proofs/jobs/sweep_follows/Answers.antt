use Rattle.lethe_moves.proofs.SweepMoves.{sweep_follows}
use Rattle.lethe_moves.proofs.jobs.sweep_follows.Goals as goal

pub returns : goal.returns
returns c = λ threshold h l follows erase s sweeps. sweep_follows threshold h l follows erase s sweeps
