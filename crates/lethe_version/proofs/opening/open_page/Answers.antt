use Rattle.lethe_disk.proofs.Quieting.{quiet_call}
use Rattle.lethe_version.proofs.opening.open_page.Goals as goal

pub returns-in_err-page-clause-quiet : goal.returns-in_err-page-clause-quiet
returns-in_err-page-clause-quiet g c = λ told. quiet_call c.open_page.result (g.D.Disk.seen c.args.disk.now) (g.D.Disk.seen c.open_page.new.self) (c.open_page.ensures.call told) (c.open_page.ensures.directory told)

pub returns-in_err-new-clause-quiet : goal.returns-in_err-new-clause-quiet
returns-in_err-new-clause-quiet g c = λ told. quiet_call c.open_page.result (g.D.Disk.seen c.args.disk.now) (g.D.Disk.seen c.open_page.new.self) (c.open_page.ensures.call told) (c.open_page.ensures.directory told)

pub returns-clause-quiet : goal.returns-clause-quiet
returns-clause-quiet g c = λ told. quiet_call c.open_page.result (g.D.Disk.seen c.args.disk.now) (g.D.Disk.seen c.open_page.new.self) (c.open_page.ensures.call told) (c.open_page.ensures.directory told)
