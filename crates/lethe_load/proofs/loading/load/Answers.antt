use Rattle.lethe_load.specs.Loaded.{shown}
use Rattle.lethe_load.proofs.Exact.{only_read, none_read, exact_refused}
use Rattle.lethe_load.proofs.loading.load.Goals as goal

pub returns-clause-only : goal.returns-clause-only
returns-clause-only g c = λ told. only_read c.args.config.now (g.D.Disk.seen c.args.disk.now).directory shown (g.D.Disk.faults c.args.disk.now) (g.D.Disk.faults c.load_greatest.new.disk) g.D.Disk.tells told c.load_greatest.result (c.load_greatest.ensures.found told) c.load_greatest.ensures.refused

pub returns-clause-none : goal.returns-clause-none
returns-clause-none g c = λ told. none_read c.args.config.now (g.D.Disk.seen c.args.disk.now).directory shown (g.D.Disk.faults c.args.disk.now) (g.D.Disk.faults c.load_greatest.new.disk) g.D.Disk.tells told c.load_greatest.result (c.load_greatest.ensures.found told) c.load_greatest.ensures.refused

pub returns-clause-exact : goal.returns-clause-exact
returns-clause-exact g c = λ told. exact_refused c.args.config.now (g.D.Disk.seen c.args.disk.now).directory shown (g.D.Disk.faults c.args.disk.now) (g.D.Disk.faults c.load_greatest.new.disk) g.D.Disk.tells told c.load_greatest.result (c.load_greatest.ensures.found told) c.load_greatest.ensures.refused
