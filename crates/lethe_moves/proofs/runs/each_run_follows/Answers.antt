use Rattle.lethe_moves.proofs.EachRun.{each_run}
use Rattle.lethe_moves.proofs.runs.each_run_follows.Goals as goal

pub returns : goal.returns
returns c = λ fields config h l run. each_run fields config h l run
