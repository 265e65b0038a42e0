use Rattle.std.proofs.Common.{◌≡◌, ◌++◌, drop, map}
use Rattle.lethe_file.specs.Waiting.{waits_for, waits_in}
use Rattle.lethe_file.proofs.holding.hold_pages.Given as goal

abbrev pub invariant-loop-place : goal.invariant-loop-place
invariant-loop-place g l =
    waits_in g.D.Disk.page_bytes l.held.items ++ waits_for (drop l.place l.lines) (drop l.place (map (λ page. g.D.Disk.page_bytes page.value) l.pages))
    ≡ waits_for l.lines (map (λ page. g.D.Disk.page_bytes page.value) l.pages)
