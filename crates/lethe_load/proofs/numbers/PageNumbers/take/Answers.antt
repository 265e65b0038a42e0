use Rattle.lethe_load.proofs.Sets.{one_more}
use Rattle.lethe_load.proofs.numbers.PageNumbers.take.Goals as goal

pub returns-clause-taken : goal.returns-clause-taken
returns-clause-taken c = one_more c.args.self.now.taken c.insert.new.self c.args.no c.in_ok-insert.ensures.updates
