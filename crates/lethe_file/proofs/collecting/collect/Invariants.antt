use Rattle.lethe_file.proofs.Held.{IsCollected}
use Rattle.lethe_file.proofs.collecting.collect.Given as goal

abbrev pub invariant-loop-held : goal.invariant-loop-held
invariant-loop-held g l = IsCollected g.S.PageSource.page_bytes g.S.PageSource.tells l.range.lo l.range.hi l.pages l.held-index l.all.items (g.S.PageSource.fetches l.fn.port) (g.S.PageSource.fetches l.port) (g.S.PageSource.port_faults l.fn.port) (g.S.PageSource.port_faults l.port)
