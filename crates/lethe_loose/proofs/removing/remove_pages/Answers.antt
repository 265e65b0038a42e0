use Rattle.std.proofs.Common.{subst}
use Rattle.lethe_disk.specs.Directory.{SameBeside}
use Rattle.lethe_loose.proofs.removing.remove_pages.Goals as goal

pub remove_named-requires-clause-there : goal.remove_named-requires-clause-there
remove_named-requires-clause-there g c κs within = λ told.
    let asked = c.requires.there told in
    (asked.0, asked.1, c.args.written, asked.2, c.names.ensures)

pub returns-clause-any_moment : goal.returns-clause-any_moment
returns-clause-any_moment g c = λ told s left may. c.remove_named.ensures.any_moment told s left c.args.written may c.names.ensures

pub returns-clause-done : goal.returns-clause-done
returns-clause-done g c = λ told s left may. c.remove_named.ensures.done told s left c.args.written may c.names.ensures

pub returns-clause-others : goal.returns-clause-others
returns-clause-others g c = λ told.
    let s0 = g.D.Disk.seen c.args.disk.now in
    let s1 = g.D.Disk.seen c.remove_named.new.disk in
    subst (λ l. SameBeside l s0.directory s1.directory) c.names.ensures (c.remove_named.ensures.others told)
