use Rattle.std.proofs.Common.{map, take, Ok, None}
use Rattle.std.specs.List.{flat_map}
use Rattle.lethe_version.specs.Search.{IsSearch}
use Rattle.lethe_version.proofs.searching.find_in.Given as goal

abbrev pub invariant-loop-level : goal.invariant-loop-level
invariant-loop-level g l = IsSearch (λ file. file.header) (λ file. map (λ page. g.D.Disk.page_bytes page.value) file.pages.items) g.D.Disk.tells g.D.Disk.ports_fail l.key
    (flat_map (λ level. map (λ shared. shared.file.value) level.files.items) (take l.level-index l.levels)) None
    (g.D.Disk.fetches l.fn.port) (g.D.Disk.fetches l.port) (g.D.Disk.port_faults l.fn.port) (g.D.Disk.port_faults l.port) (Ok l.newest)
