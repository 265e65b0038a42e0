use Rattle.std.proofs.Common.{◌-◌, length}
use Rattle.lethe_page.proofs.Loop.{IsReadTo}
use Rattle.lethe_page.proofs.entries.read_entries.Given as goal

abbrev pub invariant-entries : goal.invariant-entries
invariant-entries l = IsReadTo l.class l.count l.bytes l.entries.items l.at

abbrev pub decreases-entries : goal.decreases-entries
decreases-entries l = l.count - length l.entries.items
