use Rattle.lethe_merge.proofs.Heads.{behind_own}
use Rattle.lethe_merge.proofs.source.Source.take.Goals as goal

pub returns-clause-behind : goal.returns-clause-behind
returns-clause-behind g c = behind_own c.args.self.now.cursor c.args.self.now.head c.take.new.self c.take.result c.take.ensures.taken c.take.ensures.behind
