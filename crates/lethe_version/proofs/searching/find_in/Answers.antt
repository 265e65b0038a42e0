use Rattle.std.proofs.Common.{map, Ok, Err, None}
use Rattle.std.specs.List.{flat_map}
use Rattle.std.proofs.lemmas.Grind.{flat_map-append}
use Rattle.lethe_version.proofs.Searched.{level_searched, loop_all, loop_more, loop_refused}
use Rattle.lethe_version.proofs.searching.find_in.Goals as goal

pub returns-in-Err : goal.returns-in-Err
returns-in-Err g c =
    loop_refused (λ file. file.header) (λ file. map (λ page. g.D.Disk.page_bytes page.value) file.pages.items) g.D.Disk.tells g.D.Disk.ports_fail c.args.key.now
    (flat_map (λ level. map (λ shared. shared.file.value) level.files.items)) (λ xs ys. flat_map-append (λ level. map (λ shared. shared.file.value) level.files.items) xs ys) c.args.levels.now c.loop-level.level-index c.level-item.result c.loop-level-test.true c.level-item.is
    None c.loop-level.newest (g.D.Disk.fetches c.args.port.now) (g.D.Disk.fetches c.loop-level.port) (g.D.Disk.fetches c.find_among.new.port) (g.D.Disk.port_faults c.args.port.now) (g.D.Disk.port_faults c.loop-level.port) (g.D.Disk.port_faults c.find_among.new.port)
    c.loop-level.invariant c.port_faults-before.result c.in-Err.why c.since.result c.port_faults-before.ensures c.since.ensures
    (level_searched (λ file. file.header) (λ file. map (λ page. g.D.Disk.page_bytes page.value) file.pages.items) g.D.Disk.tells g.D.Disk.ports_fail c.args.key.now (λ shared. shared.file.value) c.level-item.result.files.items c.candidates.result.now c.loop-level.newest
    (g.D.Disk.fetches c.loop-level.port) (g.D.Disk.fetches c.find_among.new.port) (g.D.Disk.port_faults c.loop-level.port) (g.D.Disk.port_faults c.find_among.new.port) (Err c.in-Err.why) c.candidates.ensures c.in-Err.ensures)

pub loop-level-preserved : goal.loop-level-preserved
loop-level-preserved g c =
    loop_more (λ file. file.header) (λ file. map (λ page. g.D.Disk.page_bytes page.value) file.pages.items) g.D.Disk.tells g.D.Disk.ports_fail c.args.key.now
    (flat_map (λ level. map (λ shared. shared.file.value) level.files.items)) (λ xs ys. flat_map-append (λ level. map (λ shared. shared.file.value) level.files.items) xs ys) c.args.levels.now c.loop-level.level-index c.level-item.result c.loop-level-test.true c.level-item.is
    None c.loop-level.newest (g.D.Disk.fetches c.args.port.now) (g.D.Disk.fetches c.loop-level.port) (g.D.Disk.fetches c.find_among.new.port) (g.D.Disk.port_faults c.args.port.now) (g.D.Disk.port_faults c.loop-level.port) (g.D.Disk.port_faults c.find_among.new.port)
    c.loop-level.invariant c.in-Ok.found
    (level_searched (λ file. file.header) (λ file. map (λ page. g.D.Disk.page_bytes page.value) file.pages.items) g.D.Disk.tells g.D.Disk.ports_fail c.args.key.now (λ shared. shared.file.value) c.level-item.result.files.items c.candidates.result.now c.loop-level.newest
    (g.D.Disk.fetches c.loop-level.port) (g.D.Disk.fetches c.find_among.new.port) (g.D.Disk.port_faults c.loop-level.port) (g.D.Disk.port_faults c.find_among.new.port) (Ok c.in-Ok.found) c.candidates.ensures c.in-Ok.ensures)

pub returns : goal.returns
returns g c =
    loop_all (λ file. file.header) (λ file. map (λ page. g.D.Disk.page_bytes page.value) file.pages.items) g.D.Disk.tells g.D.Disk.ports_fail c.args.key.now
    (flat_map (λ level. map (λ shared. shared.file.value) level.files.items)) c.args.levels.now c.loop-level.level-index None (g.D.Disk.fetches c.args.port.now) (g.D.Disk.fetches c.loop-level.port) (g.D.Disk.port_faults c.args.port.now) (g.D.Disk.port_faults c.loop-level.port)
    (Ok c.loop-level.newest) c.loop-level-test.false c.loop-level.invariant
