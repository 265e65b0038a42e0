use Rattle.std.proofs.Common.{map}
use Rattle.lethe_version.proofs.Searched.{answered_at, not_asked_of, refused_at}
use Rattle.lethe_version.proofs.searching.look.Goals as goal

pub returns-then-not-can_be_newer : goal.returns-then-not-can_be_newer
returns-then-not-can_be_newer g c =
    not_asked_of (λ file. file.header) (λ file. map (λ page. g.D.Disk.page_bytes page.value) file.pages.items) g.D.Disk.tells g.D.Disk.ports_fail c.args.key.now c.args.file.now.file.value c.args.newest
    (g.D.Disk.fetches c.args.port.now) (g.D.Disk.port_faults c.args.port.now) c.if-not-can_be_newer.ensures

pub returns-in-Ok : goal.returns-in-Ok
returns-in-Ok g c =
    let facts = c.in-Ok.ensures in
    answered_at (λ file. file.header) (λ file. map (λ page. g.D.Disk.page_bytes page.value) file.pages.items) g.D.Disk.tells g.D.Disk.ports_fail c.args.key.now c.args.file.now.file.value c.file.result.now c.file.ensures
    c.args.newest c.in-Ok.found c.newer.result c.newer.ensures (g.D.Disk.fetches c.args.port.now) (g.D.Disk.fetches c.find.new.port) (g.D.Disk.port_faults c.args.port.now) (g.D.Disk.port_faults c.find.new.port)
    c.file.result.now.spelled facts.found facts.vouched facts.fetches facts.later facts.cause.later

pub returns-in-Err : goal.returns-in-Err
returns-in-Err g c =
    let facts = c.in-Err.ensures in
    refused_at (λ file. file.header) (λ file. map (λ page. g.D.Disk.page_bytes page.value) file.pages.items) g.D.Disk.tells g.D.Disk.ports_fail c.args.key.now c.args.file.now.file.value c.file.result.now c.file.ensures
    c.args.newest (g.D.Disk.fetches c.args.port.now) (g.D.Disk.fetches c.find.new.port) (g.D.Disk.port_faults c.args.port.now) (g.D.Disk.port_faults c.find.new.port) c.in-Err.why
    facts.fetches facts.later facts.damaged facts.undamaged facts.cause facts.can_fail
