use Rattle.lethe_file.proofs.Pages.{IsSearched}
use Rattle.lethe_file.proofs.finding.find_in.Given as goal

abbrev pub invariant-loop-place : goal.invariant-loop-place
invariant-loop-place g l = IsSearched (λ page. g.D.Disk.page_bytes page.value) g.D.Disk.tells l.key l.lines l.pages l.place (g.D.Disk.fetches l.fn.port) (g.D.Disk.fetches l.port) (g.D.Disk.port_faults l.fn.port) (g.D.Disk.port_faults l.port)
