use Rattle.lethe_recover.proofs.Resumed.{settled_goes, settled_pace}
use Rattle.lethe_recover.proofs.resuming.resume.Goals as goal

pub returns-in_default-clause-any_moment : goal.returns-in_default-clause-any_moment
returns-in_default-clause-any_moment g c = λ told s settled loaded. settled_goes (g.D.Disk.seen c.args.disk.now) s settled

pub returns-in_default-number_behind-clause-any_moment : goal.returns-in_default-number_behind-clause-any_moment
returns-in_default-number_behind-clause-any_moment g c = λ told s settled loaded. settled_goes (g.D.Disk.seen c.args.disk.now) s settled

pub returns-in_default-clause-pace : goal.returns-in_default-clause-pace
returns-in_default-clause-pace g c = λ told s settled loaded. settled_pace (g.D.Disk.seen c.args.disk.now) s c.args.manifest.now settled loaded.manifest

pub returns-in_default-number_behind-clause-pace : goal.returns-in_default-number_behind-clause-pace
returns-in_default-number_behind-clause-pace g c = λ told s settled loaded. settled_pace (g.D.Disk.seen c.args.disk.now) s c.args.manifest.now settled loaded.manifest

pub returns-in-Ok-reopen-clause-pace : goal.returns-in-Ok-reopen-clause-pace
returns-in-Ok-reopen-clause-pace g c = λ told s settled loaded. c.reopen.ensures.pace told s settled (c.in-Ok.ensures.for_stored s settled.coherent loaded)

pub returns-in-Err-clause-pace : goal.returns-in-Err-clause-pace
returns-in-Err-clause-pace g c = λ told s settled loaded. c.reopen.ensures.pace told s settled (c.in-Ok.ensures.for_stored s settled.coherent loaded)
