use Rattle.std.proofs.Common.{◌≡◌, take}
use Rattle.lethe_header.specs.Facts.{tombs_in}
use Rattle.lethe_engine.specs.Capped.{capped}
use Rattle.lethe_engine.proofs.telling.tombs_on.Given as goal

abbrev pub invariant-loop-line : goal.invariant-loop-line
invariant-loop-line l = l.tombs ≡ capped (tombs_in (take l.line-index l.lines))
