use Rattle.lethe_segment.proofs.Runs.{only_read, exact_read}
use Rattle.lethe_segment.proofs.replaying.replay.Goals as goal

pub returns-clause-only : goal.returns-clause-only
returns-clause-only c = only_read c.args.bytes.now c.read_all.result c.read_all.ensures.found c.read_all.ensures.refused

pub returns-clause-exact : goal.returns-clause-exact
returns-clause-exact c = exact_read c.args.bytes.now c.read_all.result c.read_all.ensures.found c.read_all.ensures.refused
