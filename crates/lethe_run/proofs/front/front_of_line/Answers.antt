use Rattle.lethe_run.proofs.Fronts.{shown_of}
use Rattle.lethe_run.proofs.front.front_of_line.Goals as goal

pub returns : goal.returns
returns c = shown_of c.args.bytes.now c.args.number c.within_limit.result.now c.in_ok-line.line.now c.copy_of.result c.within_limit.ensures c.in_ok-line.ensures c.copy_of.ensures
