use Rattle.std.proofs.Common.{map, Ok}
use Rattle.std.proofs.lemmas.List.{map-append}
use Rattle.lethe_version.proofs.Searched.{loop_all, loop_more, loop_refused}
use Rattle.lethe_version.proofs.searching.find_among.Goals as goal

pub returns-in-Err : goal.returns-in-Err
returns-in-Err g c =
    loop_refused (λ file. file.header) (λ file. map (λ page. g.D.Disk.page_bytes page.value) file.pages.items) g.D.Disk.tells g.D.Disk.ports_fail c.args.key.now
    (map (λ shared. shared.file.value)) (λ xs ys. map-append (λ shared. shared.file.value) xs ys) c.args.files.now c.loop-file.file-index c.file-item.result c.loop-file-test.true c.file-item.is
    c.args.newest c.loop-file.newest (g.D.Disk.fetches c.args.port.now) (g.D.Disk.fetches c.loop-file.port) (g.D.Disk.fetches c.look.new.port) (g.D.Disk.port_faults c.args.port.now) (g.D.Disk.port_faults c.loop-file.port) (g.D.Disk.port_faults c.look.new.port)
    c.loop-file.invariant c.port_faults-before.result c.in-Err.why c.since.result c.port_faults-before.ensures c.since.ensures c.in-Err.ensures

pub loop-file-preserved : goal.loop-file-preserved
loop-file-preserved g c =
    loop_more (λ file. file.header) (λ file. map (λ page. g.D.Disk.page_bytes page.value) file.pages.items) g.D.Disk.tells g.D.Disk.ports_fail c.args.key.now
    (map (λ shared. shared.file.value)) (λ xs ys. map-append (λ shared. shared.file.value) xs ys) c.args.files.now c.loop-file.file-index c.file-item.result c.loop-file-test.true c.file-item.is
    c.args.newest c.loop-file.newest (g.D.Disk.fetches c.args.port.now) (g.D.Disk.fetches c.loop-file.port) (g.D.Disk.fetches c.look.new.port) (g.D.Disk.port_faults c.args.port.now) (g.D.Disk.port_faults c.loop-file.port) (g.D.Disk.port_faults c.look.new.port)
    c.loop-file.invariant c.in-Ok.newer c.in-Ok.ensures

pub returns : goal.returns
returns g c =
    loop_all (λ file. file.header) (λ file. map (λ page. g.D.Disk.page_bytes page.value) file.pages.items) g.D.Disk.tells g.D.Disk.ports_fail c.args.key.now
    (map (λ shared. shared.file.value)) c.args.files.now c.loop-file.file-index c.args.newest (g.D.Disk.fetches c.args.port.now) (g.D.Disk.fetches c.loop-file.port) (g.D.Disk.port_faults c.args.port.now) (g.D.Disk.port_faults c.loop-file.port)
    (Ok c.loop-file.newest) c.loop-file-test.false c.loop-file.invariant
