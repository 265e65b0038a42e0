use Rattle.std.proofs.Common.{◌-◌, length}
use Rattle.lethe_header.proofs.Lines.{AreLines}
use Rattle.lethe_header.proofs.tile.read_lines.Given as goal

abbrev pub invariant-lines : goal.invariant-lines
invariant-lines l = AreLines l.count l.bytes l.start l.lines.items l.before l.at

abbrev pub decreases-lines : goal.decreases-lines
decreases-lines l = l.count - length l.lines.items
