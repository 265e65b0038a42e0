use Rattle.std.proofs.Common.{map, take, Ok}
use Rattle.lethe_version.specs.Search.{IsSearch}
use Rattle.lethe_version.proofs.searching.find_among.Given as goal

abbrev pub invariant-loop-file : goal.invariant-loop-file
invariant-loop-file g l = IsSearch (λ file. file.header) (λ file. map (λ page. g.D.Disk.page_bytes page.value) file.pages.items) g.D.Disk.tells g.D.Disk.ports_fail l.key (map (λ shared. shared.file.value) (take l.file-index l.files)) l.fn.newest
    (g.D.Disk.fetches l.fn.port) (g.D.Disk.fetches l.port) (g.D.Disk.port_faults l.fn.port) (g.D.Disk.port_faults l.port) (Ok l.newest)
