use Rattle.lethe_drive.proofs.Among.{gone_at}
use Rattle.lethe_drive.proofs.past.give_up.Goals as goal

pub returns-in-Some-clause-gone : goal.returns-in-Some-clause-gone
returns-in-Some-clause-gone g c = gone_at c.args.past.now.items c.args.place c.requires c.remove.result c.remove.ensures.value c.remove.new.self.items c.remove.ensures.by_index.2

pub returns-in-None-clause-gone : goal.returns-in-None-clause-gone
returns-in-None-clause-gone g c = gone_at c.args.past.now.items c.args.place c.requires c.remove.result c.remove.ensures.value c.remove.new.self.items c.remove.ensures.by_index.2
